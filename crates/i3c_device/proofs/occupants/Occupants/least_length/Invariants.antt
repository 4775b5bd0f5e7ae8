use Rattle.i3c_device.proofs.LengthLaws.{LeastSoFar}
use Rattle.i3c_device.proofs.occupants.Occupants.least_length.Given as goal

-- the least of the slots so far
abbrev pub invariant-loop-index : goal.invariant-loop-index
invariant-loop-index l = LeastSoFar l.fn.among l.left l.way l.self-inside.places l.least

abbrev pub decreases-loop-index : goal.decreases-loop-index
decreases-loop-index l = l.left.bits
