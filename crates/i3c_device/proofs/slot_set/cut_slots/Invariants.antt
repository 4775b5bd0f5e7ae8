use Rattle.std.proofs.Common.{◌≡◌, ℕ, ◌<◌, false}
use Rattle.i3c_base.specs.declared.range.TheConstants.{SLOTS}
use Rattle.i3c_base.specs.Cutting.{lost_by}
use Rattle.i3c_device.specs.Sets.{has}
use Rattle.i3c_device.proofs.slot_set.cut_slots.Given as goal

-- the slots that are no longer left are in the set where they are lost
abbrev pub invariant-loop-index : goal.invariant-loop-index
invariant-loop-index l = (s : ℕ) → s < SLOTS → has l.left s ≡ false → has l.lost s ≡ lost_by l.cuts l.last s

abbrev pub decreases-loop-index : goal.decreases-loop-index
decreases-loop-index l = l.left.bits
