use Rattle.i3c_shared.proofs.Meeting.{all_first}
use Rattle.i3c_shared.proofs.intake.Intake.compare_all.Goals as goal

pub returns-clause-prefix : goal.returns-clause-prefix
returns-clause-prefix c = rw (← c.self.view_is) (all_first _ c.self.inside.recorder.run _ c.self.invariant.fits c.covers_all.ensures.prefix)
