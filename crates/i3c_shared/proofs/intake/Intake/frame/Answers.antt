use Rattle.std.proofs.Common.{refl}
use Rattle.i3c_shared.proofs.Events.{frames_are_other}
use Rattle.i3c_shared.proofs.Fitting.{fits_event}
use Rattle.i3c_shared.proofs.intake.Intake.frame.Goals as goal

pub invariant_of-self : goal.invariant_of-self
invariant_of-self g c = record { size = c.self.invariant.size; fits = fits_event _ _ _ _ c.frame.result c.frame.ensures.run (frames_are_other c.args.command _ _) c.self.invariant.fits }

pub returns-clause-made : goal.returns-clause-made
returns-clause-made g c = rw (← c.self.view_is) (record { step = c.frame.ensures.step; run = c.frame.ensures.run; start = c.frame.ensures.start; rings = refl })

pub returns-clause-told : goal.returns-clause-told
returns-clause-told g c = rw (← c.self.view_is) c.frame.ensures.told
