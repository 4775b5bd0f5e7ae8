use Rattle.i3c_explore.proofs.Adding.{one_of_parts, parts_add_up}
use Rattle.i3c_explore.proofs.Parting.{of_whole}
use Rattle.i3c_explore.proofs.splits.parts_share_all.Goals as goal

pub returns-clause-whole : goal.returns-clause-whole
returns-clause-whole g c = of_whole

pub returns-clause-one : goal.returns-clause-one
returns-clause-one g c = one_of_parts

pub returns-clause-sum : goal.returns-clause-sum
returns-clause-sum g c = parts_add_up g.M.Machine.steps
