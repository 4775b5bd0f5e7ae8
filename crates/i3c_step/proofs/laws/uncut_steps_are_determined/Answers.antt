-- Without cuts nothing is left open.
use Rattle.i3c_step.proofs.Uncut.{uncut_is_function}
use Rattle.i3c_step.proofs.laws.uncut_steps_are_determined.Goals as goal

pub returns : goal.returns
returns c old event reply other new next uncut h k ample also = uncut_is_function old event reply other new next uncut h k ample also
