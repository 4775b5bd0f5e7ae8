-- The view tells what the invariant holds.
use Rattle.std.proofs.Common.{subst}
use Rattle.i3c_recorder.specs.KeptRuns.{IsBegun, Leads}
use Rattle.i3c_shared.specs.Rings.{Fits}
use Rattle.i3c_shared.specs.Values.{IntakeValue}
use Rattle.i3c_shared.proofs.intake.Intake.keeps.Goals as goal

pub returns-clause-begun : goal.returns-clause-begun
returns-clause-begun c = subst (λ (i : IntakeValue). IsBegun i.log.start) c.self.view_is c.keeps.ensures.begun

pub returns-clause-leads : goal.returns-clause-leads
returns-clause-leads c = subst (λ (i : IntakeValue). Leads i.log.start i.log.run i.log.state) c.self.view_is c.keeps.ensures.leads

pub returns-clause-fits : goal.returns-clause-fits
returns-clause-fits c = subst (λ (i : IntakeValue). Fits i.log.rings i.log.run) c.self.view_is c.self.invariant.fits
