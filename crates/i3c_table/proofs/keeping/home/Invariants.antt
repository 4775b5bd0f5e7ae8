use Rattle.i3c_table.proofs.Homes.{IsSought}
use Rattle.i3c_table.proofs.keeping.home.Given as goal

abbrev pub invariant-loop-address : goal.invariant-loop-address
invariant-loop-address l = IsSought l.fn.among.0 l.left.0 l.registers l.fixed

abbrev pub decreases-loop-address : goal.decreases-loop-address
decreases-loop-address l = l.left.0
