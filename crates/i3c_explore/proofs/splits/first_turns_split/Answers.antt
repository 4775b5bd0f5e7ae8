use Rattle.i3c_explore.proofs.Splitting.{one_part, orders_split, runs_split}
use Rattle.i3c_explore.proofs.splits.first_turns_split.Goals as goal

pub returns-clause-orders : goal.returns-clause-orders
returns-clause-orders g c tracks = orders_split tracks

pub returns-clause-runs : goal.returns-clause-runs
returns-clause-runs g c tracks = runs_split g.M.Machine.steps tracks

pub returns-clause-parts : goal.returns-clause-parts
returns-clause-parts g c = one_part
