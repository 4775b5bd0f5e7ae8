use Rattle.std.proofs.Common.{◌∙◌}
use Rattle.i3c_shared.proofs.Fitting.{fits_drained}
use Rattle.i3c_shared.proofs.intake.Intake.take_up.Goals as goal

pub invariant_of-self : goal.invariant_of-self
invariant_of-self c = record {
  size = c.drain.ensures.drained.0 ∙ c.self.invariant.size;
  fits = fits_drained _ _ _ _ c.drain.ensures.added.added c.self.invariant.fits c.drain.ensures.drained c.drain.ensures.added.run c.drain.ensures.added.same;
}

pub returns-clause-fits : goal.returns-clause-fits
returns-clause-fits c = fits_drained _ _ _ _ c.drain.ensures.added.added c.self.invariant.fits c.drain.ensures.drained c.drain.ensures.added.run c.drain.ensures.added.same
