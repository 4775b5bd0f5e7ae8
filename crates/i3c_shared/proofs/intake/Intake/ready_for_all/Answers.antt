use Rattle.i3c_shared.proofs.Meeting.{first_looked}
use Rattle.i3c_shared.proofs.intake.Intake.ready_for_all.Goals as goal

pub returns-then-not-covers_all-clause-prefix : goal.returns-then-not-covers_all-clause-prefix
returns-then-not-covers_all-clause-prefix c = rw (← c.self.view_is) (first_looked _ _ c.self.inside.recorder.run _ c.look.ensures c.self.invariant.fits c.covers_all.ensures.prefix)
