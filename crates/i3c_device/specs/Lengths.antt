-- The least maximum length of the devices in some slots.
use Rattle.std.specs.Prelude.{◌≡◌, ℕ, ◌<◌, ◌≤◌, ◌⊎◌, true, List, Option, None, slice_index_or}
use Rattle.i3c_base.specs.declared.datum.Direction.{Direction}
use Rattle.i3c_base.specs.declared.device.TheConstants.{REGISTERS}
use Rattle.i3c_base.specs.declared.range.TheConstants.{SLOTS}
use Rattle.i3c_base.specs.State.{Device}
use Rattle.i3c_device.specs.declared.slot_set.SlotSet.{SlotSet}
use Rattle.i3c_device.specs.Holding.{length_in}
use Rattle.i3c_device.specs.Sets.{has}

-- none of these slots has less, and one of them has it, or it is the most that there is
pub record IsLeastLength (among : SlotSet) (way : Direction) (places : List (Option Device)) (n : ℕ) : Type 0 where
  pub few : n ≤ REGISTERS
  pub least : (s : ℕ) → s < SLOTS → has among s ≡ true → n ≤ length_in way (slice_index_or places s None)
  pub there : (n ≡ REGISTERS) ⊎ ((s : ℕ) × (s < SLOTS) × (has among s ≡ true) × (length_in way (slice_index_or places s None) ≡ n))
