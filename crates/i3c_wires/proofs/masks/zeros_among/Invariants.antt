use Rattle.i3c_wires.proofs.ColumnLaws.{ZerosSoFar}
use Rattle.i3c_wires.proofs.masks.zeros_among.Given as goal

-- the places so far
abbrev pub invariant-loop-rest : goal.invariant-loop-rest
invariant-loop-rest l = ZerosSoFar l.keys l.fn.among l.left l.rest l.low

abbrev pub decreases-loop-rest : goal.decreases-loop-rest
decreases-loop-rest l = l.rest
