-- The run goes on by the frame's step.
use Rattle.std.proofs.Common.{◌≡◌, ◌∙◌, ap, subst, sym}
use Rattle.i3c_step.specs.Commands.{event_of}
use Rattle.i3c_step.specs.Giving.{given_by}
use Rattle.i3c_step.specs.Step.{Step}
use Rattle.i3c_recorder.specs.Beginning.{first_state}
use Rattle.i3c_recorder.specs.KeptRuns.{Leads}
use Rattle.i3c_recorder.proofs.Leading.{leads_more}
use Rattle.i3c_recorder.proofs.recorder.Recorder.frame.Goals as goal

pub invariant_of-self : goal.invariant_of-self
invariant_of-self g c = record {
  hand = (c.in-Some.hand, c.in-Some.is, c.command-reply.ensures.carried.fits);
  begun = c.self.invariant.begun;
  legal =
      let event : c.event_of-event.result ≡ event_of c.args.command (given_by c.command-reply.result) c.args.cuts = c.event_of-event.ensures ∙ ap (λ policy. event_of c.args.command policy c.args.cuts) c.given.ensures in
      let step = subst (λ e. Step c.self.inside.bus.state e c.command-reply.result c.command-reply.new.self.state) (sym event) c.command-reply.ensures.carried.step in
      subst (λ entries. Leads (first_state c.self.inside.beginning.main c.self.inside.beginning.address c.self.inside.beginning.legacies) entries c.command-reply.new.self.state) (sym c.push.ensures.entries) (leads_more _ _ c.self.inside.bus.state _ _ c.self.invariant.legal step);
}

pub returns-clause-step : goal.returns-clause-step
returns-clause-step g c = rw (← c.self.view_is) c.command-reply.ensures.carried.step
