-- What a call does for its event.
use Rattle.i3c_base.specs.State.{Held}
use Rattle.i3c_frame.specs.declared.symbols.Symbol.{Symbol}
use Rattle.std.specs.Prelude.{List}
use Rattle.i3c_step.specs.declared.events.Event.{Event}
use Rattle.i3c_step.specs.declared.replies.Reply.{Reply}
use Rattle.i3c_bus.specs.declared.hand.Hand.{Hand}
use Rattle.i3c_bus.specs.Hands.{HandFits}
use Rattle.i3c_bus.specs.Room.{KeepsRoom}
use Rattle.i3c_step.specs.Step.{Step}
use Rattle.i3c_bus.specs.Wire.{IsWire}

-- the event with this reply is carried out: it is a step, its wire was told, the hand fits afterwards, and room is kept
pub record Carries (old new : Held) (event : Event) (reply : Reply) (hand : Hand) (Told : (List Symbol → Type 0) → Type 0) : Type 0 where
  pub step : Step old.state event reply new.state
  pub told : Told (IsWire old.state event reply new.state)
  pub fits : HandFits hand new.state
  pub room : KeepsRoom old new reply
