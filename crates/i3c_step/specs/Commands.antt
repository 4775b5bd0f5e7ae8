-- Commands, and ENEC and DISEC alike, as events.
use Rattle.std.specs.Prelude.{ℕ, Option}
use Rattle.i3c_base.specs.declared.kinds.Change.{Change}
use Rattle.i3c_base.specs.declared.kinds.Change.TheVariants.{Enable, Disable}
use Rattle.i3c_base.specs.declared.kinds.Kinds.{Kinds}
use Rattle.i3c_base.specs.declared.requests.Fixed.{Fixed}
use Rattle.i3c_base.specs.Cutting.{CutList}
use Rattle.i3c_step.specs.declared.events.Command.{Command}
use Rattle.i3c_step.specs.declared.events.Event.{Event}

-- the event that enables or disables kinds
abbrev pub kinds_event : Change → Option ℕ → Kinds → Fixed → CutList → Event
kinds_event Enable to kinds policy cuts = Event.Enec to kinds policy cuts
kinds_event Disable to kinds policy cuts = Event.Disec to kinds policy cuts

-- the event that a command is, with its policy and its cuts
abbrev pub event_of : Command → Fixed → CutList → Event
event_of Command.Serve policy cuts = Event.Serve policy cuts
event_of Command.Reset policy cuts = Event.Reset policy cuts
event_of Command.SendList policy cuts = Event.SendList policy cuts
event_of (Command.Enec to kinds) policy cuts = Event.Enec to kinds policy cuts
event_of (Command.Disec to kinds) policy cuts = Event.Disec to kinds policy cuts
event_of (Command.ReadFrom a) policy cuts = Event.ReadFrom a policy cuts
event_of (Command.WriteTo a bytes) policy cuts = Event.WriteTo a bytes policy cuts
event_of (Command.SetStatic f new) policy cuts = Event.SetStatic f new policy cuts
event_of (Command.SetNew a new) policy cuts = Event.SetNew a new policy cuts
event_of (Command.Get what a) policy cuts = Event.Get what a policy cuts
event_of (Command.SetLength way most to) policy cuts = Event.SetLength way most to policy cuts
