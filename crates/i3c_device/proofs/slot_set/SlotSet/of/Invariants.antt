use Rattle.std.proofs.Common.{ℕ, ◌≡◌, ◌<◌, ◌==◌, take}
use Rattle.std.specs.List.{list_any}
use Rattle.i3c_base.specs.declared.range.TheConstants.{SLOTS}
use Rattle.i3c_device.specs.Sets.{has}
use Rattle.i3c_device.proofs.slot_set.SlotSet.of.Given as goal

-- the slots so far
abbrev pub invariant-loop-slot : goal.invariant-loop-slot
invariant-loop-slot l = (s : ℕ) → s < SLOTS → has l.set s ≡ list_any (λ t. t == s) (take l.slot-index l.slots)
