-- A device that tells it has the identity that the table has.
use Rattle.i3c_step.proofs.Data.{data_along}
use Rattle.i3c_step.proofs.laws.data_are_of_the_table.Goals as goal

pub returns : goal.returns
returns c main board events replies st run what a policy cuts framed new bytes said e uncut step answer there says small =
    data_along main board events replies st run what a policy cuts framed new bytes said e uncut step answer there says small
