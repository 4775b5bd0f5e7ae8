use Rattle.i3c_device.proofs.RegisterLaws.{PulledSoFar}
use Rattle.i3c_device.proofs.places.pull_low.Given as goal

-- the registers so far are pulled low
abbrev pub invariant-loop-index : goal.invariant-loop-index
invariant-loop-index l = PulledSoFar l.initial.bytes l.device.registers l.index l.bytes
