-- By induction over the history.
use Rattle.i3c_step.proofs.Recording.{faithful_records}
use Rattle.i3c_step.proofs.laws.interrupts_are_recorded_once.Goals as goal

pub returns : goal.returns
returns c main legacy start h begins legal distinct = faithful_records main legacy start h begins legal distinct
