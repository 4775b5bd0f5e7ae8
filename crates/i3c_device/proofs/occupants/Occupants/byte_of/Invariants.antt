use Rattle.i3c_device.proofs.ReadLaws.{ByteSoFar}
use Rattle.i3c_device.proofs.occupants.Occupants.byte_of.Given as goal

-- the byte that the slots so far drive together
abbrev pub invariant-loop-slot : goal.invariant-loop-slot
invariant-loop-slot g l = ByteSoFar (g.D.Driven.bytes l.driven) l.fn.among l.left l.fn.index l.cuts l.at l.self-inside.places l.byte

abbrev pub decreases-loop-slot : goal.decreases-loop-slot
decreases-loop-slot g l = l.left.bits
