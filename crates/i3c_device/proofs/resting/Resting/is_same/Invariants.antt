use Rattle.i3c_device.proofs.SameLaws.{AreSameBut}
use Rattle.i3c_device.proofs.resting.Resting.is_same.Given as goal

abbrev pub invariant-loop-index : goal.invariant-loop-index
invariant-loop-index l = AreSameBut l.left l.self l.others

abbrev pub decreases-loop-index : goal.decreases-loop-index
decreases-loop-index l = l.left.bits
