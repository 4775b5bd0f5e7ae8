-- The least identity of the devices that hear the open session.
use Rattle.std.specs.Prelude.{◌≡◌, ℕ, ◌<◌, ◌≤◌, true, false, List, Option, Some, None, slice_index_or}
use Rattle.i3c_base.specs.declared.range.TheConstants.{SLOTS}
use Rattle.i3c_base.specs.Numbers.{IsInRange, number_of}
use Rattle.i3c_base.specs.State.{Device}
use Rattle.i3c_device.specs.declared.slot_set.SlotSet.{SlotSet}
use Rattle.i3c_device.specs.Sets.{has}
use Rattle.i3c_device.specs.Walks.{hears_as}

-- no device hears the session
abbrev pub NobodyHears : List (Option Device) → Type 0
NobodyHears devices = (s : ℕ) (d : Device) → slice_index_or devices s None ≡ Some d → d.hearing ≡ false

-- the hearers in these slots have the identity of this number, and no hearer has a lower one
pub record IsLeastHeard (devices : List (Option Device)) (least : ℕ × SlotSet) : Type 0 where
  pub slots : (s : ℕ) → s < SLOTS → has least.1 s ≡ hears_as least.0 (slice_index_or devices s None)
  pub some : (s : ℕ) × (s < SLOTS) × (has least.1 s ≡ true)
  pub lowest : (s : ℕ) (d : Device) → slice_index_or devices s None ≡ Some d → d.hearing ≡ true → least.0 ≤ number_of d.identity
  pub ranged : (s : ℕ) (d : Device) → slice_index_or devices s None ≡ Some d → d.hearing ≡ true → IsInRange d.identity
