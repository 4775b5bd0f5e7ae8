-- Walks over sets of slots.
use Rattle.std.specs.Prelude.{◌≡◌, ℕ, ◌<◌, Bool, true, false, List, Option, None, if◌then◌else◌, slice_index_or}
use Rattle.i3c_base.specs.declared.range.TheConstants.{SLOTS}
use Rattle.i3c_base.specs.State.{Device}
use Rattle.i3c_device.specs.declared.slot_set.SlotSet.{SlotSet}
use Rattle.i3c_device.specs.Sets.{has}

-- a change that happens in these slots alone
abbrev pub within : SlotSet → (ℕ → Option Device → Option Device) → ℕ → Option Device → Option Device
within among f s place = if has among s then f s place else place

-- the device in each of these slots, if any, fails the test
abbrev pub IsNowhere : (ℕ → Option Device → Bool) → SlotSet → List (Option Device) → Type 0
IsNowhere test among places = (s : ℕ) → s < SLOTS → has among s ≡ true → test s (slice_index_or places s None) ≡ false

-- slot i is the lowest of these in which it passes
pub record IsLowestFound (test : ℕ → Option Device → Bool) (among : SlotSet) (places : List (Option Device)) (i : ℕ) : Type 0 where
  pub among_them : has among i ≡ true
  pub found : test i (slice_index_or places i None) ≡ true
  pub below : (s : ℕ) → s < i → has among s ≡ true → test s (slice_index_or places s None) ≡ false
