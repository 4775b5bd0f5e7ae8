use Rattle.std.proofs.Common.{◌≡◌, ◌<◌, ◌≤◌, ℕ, false}
use Rattle.i3c_base.specs.declared.range.TheConstants.{SLOTS}
use Rattle.i3c_device.specs.Sets.{has}
use Rattle.i3c_device.proofs.slot_set.SlotSet.span.Given as goal

abbrev pub invariant-loop-index : goal.invariant-loop-index
invariant-loop-index l =
    (l.span ≤ SLOTS) × ((s : ℕ) → s < SLOTS → s < l.span → has l.left s ≡ false) × ((s : ℕ) → s < SLOTS → l.span ≤ s → has l.left s ≡ has l.fn.self s)

abbrev pub decreases-loop-index : goal.decreases-loop-index
decreases-loop-index l = l.left.bits
