use Rattle.std.proofs.Common.{◌≡◌, length}
use Rattle.i3c_base.specs.declared.range.TheConstants.{SLOTS}
use Rattle.i3c_device.proofs.KeepLaws.{AreWokenAlone}
use Rattle.i3c_device.proofs.occupants.Occupants.wake_alone.Given as goal

abbrev pub invariant-loop-index : goal.invariant-loop-index
invariant-loop-index l = (length l.self ≡ SLOTS) × AreWokenAlone l.left l.self l.kept

abbrev pub decreases-loop-index : goal.decreases-loop-index
decreases-loop-index l = l.left.bits
