use Rattle.std.proofs.Common.{refl}
use Rattle.i3c_shared.proofs.Fitting.{fits_event}
use Rattle.i3c_shared.proofs.intake.Intake.apply.Goals as goal

pub invariant_of-self : goal.invariant_of-self
invariant_of-self g c = record { size = c.self.invariant.size; fits = fits_event _ _ _ c.args.event c.apply.result c.apply.ensures.run c.requires.other c.self.invariant.fits }

pub returns-clause-made : goal.returns-clause-made
returns-clause-made g c = rw (← c.self.view_is) (record { step = c.apply.ensures.step; run = c.apply.ensures.run; start = c.apply.ensures.start; rings = refl })

pub returns-clause-told : goal.returns-clause-told
returns-clause-told g c = rw (← c.self.view_is) c.apply.ensures.told
