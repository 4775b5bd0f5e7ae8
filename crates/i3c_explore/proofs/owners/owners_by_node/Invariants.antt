use Rattle.i3c_explore.specs.Owners.{AreOwned}
use Rattle.i3c_explore.proofs.owners.owners_by_node.Given as goal

abbrev pub invariant-loop-node : goal.invariant-loop-node
invariant-loop-node l = AreOwned l.owners.items l.fn.jobs
