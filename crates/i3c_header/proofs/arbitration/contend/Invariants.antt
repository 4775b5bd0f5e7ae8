use Rattle.i3c_header.proofs.KeyLaws.{KeyedSoFar}
use Rattle.i3c_header.proofs.arbitration.contend.Given as goal

-- the contenders of the requests so far
abbrev pub invariant-loop-index : goal.invariant-loop-index
invariant-loop-index g l = KeyedSoFar l.requests l.index l.keys.items
