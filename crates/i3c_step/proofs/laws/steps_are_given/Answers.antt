-- The verdict that counted is the same.
use Rattle.i3c_step.proofs.Given.{step_given}
use Rattle.i3c_step.proofs.laws.steps_are_given.Goals as goal

pub returns : goal.returns
returns c old event reply new h = step_given old event reply new h
