use Rattle.i3c_wires.proofs.TurnLaws.{UncutSoFar}
use Rattle.i3c_wires.proofs.turns.cut_bits.Given as goal

-- the contenders so far
abbrev pub invariant-loop-contender : goal.invariant-loop-contender
invariant-loop-contender l = UncutSoFar l.cuts l.keys l.width l.contender-index l.turns
