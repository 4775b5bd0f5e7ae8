use Rattle.std.proofs.Common.{◌≡◌, ◌+◌, ◌≤◌, true, length, map}
use Rattle.i3c_base.specs.declared.range.TheConstants.{SLOTS}
use Rattle.i3c_frame.specs.Taps.{Tells}
use Rattle.i3c_step.specs.Sessions.{hearers}
use Rattle.i3c_bus.specs.Assigning.{AreRounds, given_reply}
use Rattle.i3c_bus.specs.Hands.{HandFits}
use Rattle.i3c_bus.specs.declared.hand.Hand.{Hand}
use Rattle.i3c_bus.proofs.bus.Bus.all_rounds.Given as goal

-- each round so far gave an address, and left one hearer fewer
abbrev pub invariant-loop : goal.invariant-loop
invariant-loop g l = record {
  told : Tells g.T.Tap.note_gives l.fn.tap l.tap (λ wire. AreRounds l.fn.self.state (map given_reply l.given.items) wire l.self.state);
  fits : HandFits (Hand.Session l.session) l.self.state;
  lasts : l.fn.self.room ≡ true → l.self.room ≡ true;
  fewer : hearers l.self.state.devices + l.counter ≤ SLOTS;
  many : length l.given.items ≡ l.counter;
}
