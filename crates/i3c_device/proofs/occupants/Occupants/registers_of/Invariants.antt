use Rattle.i3c_device.proofs.RegisterLaws.{RegistersSoFar}
use Rattle.i3c_device.proofs.occupants.Occupants.registers_of.Given as goal

-- what the slots so far drive together
abbrev pub invariant-loop-slot : goal.invariant-loop-slot
invariant-loop-slot l = RegistersSoFar l.fn.among l.left l.self-inside.places l.bytes

abbrev pub decreases-loop-slot : goal.decreases-loop-slot
decreases-loop-slot l = l.left.bits
