use Rattle.i3c_table.proofs.Same.{AreSameBut}
use Rattle.i3c_table.proofs.rows.Rows.are_same.Given as goal

-- both have the same at the addresses that aren't left
abbrev pub invariant-loop-address : goal.invariant-loop-address
invariant-loop-address l = AreSameBut l.left.0 l.self l.others

abbrev pub decreases-loop-address : goal.decreases-loop-address
decreases-loop-address l = l.left.0
