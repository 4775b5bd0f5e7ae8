use Rattle.i3c_table.proofs.Homes.{IsKeeping}
use Rattle.i3c_table.proofs.keeping.keep_homes.Given as goal

abbrev pub invariant-loop-address : goal.invariant-loop-address
invariant-loop-address l = IsKeeping l.legacies.declared l.among.0 l.left.0 l.kept.0 l.registers l.numbers l.order

abbrev pub decreases-loop-address : goal.decreases-loop-address
decreases-loop-address l = l.left.0
