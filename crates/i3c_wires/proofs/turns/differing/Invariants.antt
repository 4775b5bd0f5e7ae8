use Rattle.i3c_wires.proofs.TurnLaws.{AlikeSoFar}
use Rattle.i3c_wires.proofs.turns.differing.Given as goal

-- the contenders so far
abbrev pub invariant-loop-contender : goal.invariant-loop-contender
invariant-loop-contender l = AlikeSoFar l.keys l.width l.first l.contender-index l.turns
