use Rattle.std.proofs.Common.{take}
use Rattle.i3c_step.specs.Runs.{IsLegalRun}
use Rattle.i3c_bus.specs.Hands.{HandFits}
use Rattle.i3c_bus.proofs.outcome.run_events.Given as goal

-- the replies so far and the bus are those of a legal run
abbrev pub invariant-loop-event : goal.invariant-loop-event
invariant-loop-event l = record {
  run : IsLegalRun l.fn.main l.fn.legacies (take l.event-index l.events) l.replies.items l.bus.state;
  hand : HandFits l.hand l.bus.state;
}
