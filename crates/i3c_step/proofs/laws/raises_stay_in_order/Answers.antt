-- By induction over the history.
use Rattle.i3c_step.proofs.StayOrder.{stays_in_order}
use Rattle.i3c_step.proofs.laws.raises_stay_in_order.Goals as goal

pub returns : goal.returns
returns c main legacy start h begins legal distinct s d p = stays_in_order main legacy start h begins legal distinct s d p
