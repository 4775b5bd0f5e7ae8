use Rattle.i3c_device.proofs.KeepLaws.{AreWalked}
use Rattle.i3c_device.proofs.resting.are_same_among.Given as goal

abbrev pub invariant-loop-index : goal.invariant-loop-index
invariant-loop-index l = AreWalked l.fn.among l.left l.kept l.occupants

abbrev pub decreases-loop-index : goal.decreases-loop-index
decreases-loop-index l = l.left.bits
