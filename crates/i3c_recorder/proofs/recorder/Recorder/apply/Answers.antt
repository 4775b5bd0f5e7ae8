-- The run goes on by the event's step.
use Rattle.i3c_recorder.proofs.Leading.{leads_more}
use Rattle.i3c_recorder.proofs.recorder.Recorder.apply.Goals as goal

pub invariant_of-self : goal.invariant_of-self
invariant_of-self g c = record {
  hand = (c.step-hand.result.0, c.replace.ensures.after, c.step-hand.ensures.carried.fits);
  begun = c.self.invariant.begun;
  legal = rw c.push.ensures.entries (leads_more _ _ c.self.inside.bus.state _ _ c.self.invariant.legal c.step-hand.ensures.carried.step);
}

pub returns-clause-step : goal.returns-clause-step
returns-clause-step g c = rw (← c.self.view_is) c.step-hand.ensures.carried.step
