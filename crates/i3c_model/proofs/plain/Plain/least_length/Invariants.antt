use Rattle.i3c_model.proofs.Lengths.{IsLeastSoFar}
use Rattle.i3c_model.proofs.plain.Plain.least_length.Given as goal

-- the least maximum length of the slots so far
abbrev pub invariant-loop-index : goal.invariant-loop-index
invariant-loop-index l = IsLeastSoFar l.self l.way l.at l.index l.least
