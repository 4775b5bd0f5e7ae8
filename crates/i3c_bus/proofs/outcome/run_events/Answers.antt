-- Each event adds a step, and the laws hold of every legal run.
use Rattle.std.proofs.lemmas.List.{take_more}
use Rattle.i3c_step.proofs.Active.{active_along}
use Rattle.i3c_step.proofs.Answering.{unique_along}
use Rattle.i3c_step.proofs.RunLaws.{legal_more, legal_none}
use Rattle.i3c_bus.proofs.outcome.run_events.Goals as goal

pub loop-event-init : goal.loop-event-init
loop-event-init c = record {
  run = rw c.new-replies.ensures.items (legal_none _ _ _ c.in-Ok.ensures.start);
  hand = c.in-Ok.ensures.fits;
}

pub loop-event-preserved : goal.loop-event-preserved
loop-event-preserved c = record {
  run = rw (take_more c.args.events.now c.loop-event.event-index c.event-item.result c.loop-event-test.true, c.in-Ok-push.ensures.items, ← c.event-item.is)
      (legal_more _ _ _ _ _ c.event-item.result c.step-next.result.1 _ c.loop-event.invariant.run c.step-next.ensures.carried.step);
  hand = c.step-next.ensures.carried.fits;
}

pub returns-clause-unique : goal.returns-clause-unique
returns-clause-unique c = unique_along _ _ _ _ _ c.loop-event.invariant.run

pub returns-clause-active : goal.returns-clause-active
returns-clause-active c = active_along _ _ _ _ _ c.loop-event.invariant.run
