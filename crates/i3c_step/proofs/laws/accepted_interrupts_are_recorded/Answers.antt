-- No other answer is possible.
use Rattle.i3c_step.proofs.Accepting.{step_records}
use Rattle.i3c_step.proofs.laws.accepted_interrupts_are_recorded.Goals as goal

pub returns : goal.returns
returns c old event reply new policy served a h e sent first accepted = step_records old event reply new policy served a h e sent first accepted
