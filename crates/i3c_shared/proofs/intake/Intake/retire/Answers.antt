use Rattle.std.proofs.Common.{◌∙◌, ap, subst}
use Rattle.i3c_recorder.specs.KeptRuns.{IsLegalTo}
use Rattle.i3c_shared.specs.Raises.{raises_of}
use Rattle.i3c_shared.specs.Values.{IntakeValue}
use Rattle.i3c_shared.proofs.Growing.{all_posted, takes_from}
use Rattle.i3c_shared.proofs.intake.Intake.retire.Goals as goal

pub returns-clause-closed : goal.returns-clause-closed
returns-clause-closed c = (
  c.ready_for_all.new.self.log.rings,
  c.take_up.new.self.log,
  c.ready_for_all.ensures.same.rings,
  takes_from _ _ _ c.ready_for_all.ensures.same c.take_up.ensures.taken,
  c.retire-run.ensures.run ∙ ap (λ (v : IntakeValue). v.log.run) c.intake.view_is,
  c.retire-run.ensures.records ∙ ap (λ (v : IntakeValue). v.log.state.records) c.intake.view_is,
  c.waiting-waiting.ensures,
  subst (λ (v : IntakeValue). IsLegalTo v.log.run v.log.state) c.intake.view_is c.retire-run.ensures.legal,
)

pub returns-clause-whole : goal.returns-clause-whole
returns-clause-whole c = λ k p at end.
    ap (raises_of p.slot) (c.retire-run.ensures.run ∙ ap (λ (v : IntakeValue). v.log.run) c.intake.view_is)
    ∙ all_posted c.args.self.log.rings c.ready_for_all.new.self.log.rings c.take_up.new.self.log.rings c.args.ports.now.items c.take_up.new.self.log.run c.in-Ok.ensures.whole c.take_up.ensures.taken.left c.take_up.ensures.fits k p at end

pub returns-in_default-clause-prefix : goal.returns-in_default-clause-prefix
returns-in_default-clause-prefix c = rw c.ready_for_all.ensures.same.run c.in_default.ensures.prefix
