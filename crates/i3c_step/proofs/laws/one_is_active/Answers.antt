-- The active slot is occupied from the start on.
use Rattle.i3c_step.proofs.Active.{active_along}
use Rattle.i3c_step.proofs.laws.one_is_active.Goals as goal

pub returns : goal.returns
returns c main legacy events replies new run = active_along main legacy events replies new run
