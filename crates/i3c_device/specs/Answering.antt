-- Which slots have an address, by slot and by address.
use Rattle.std.specs.Prelude.{◌≡◌, ℕ, ◌<◌, ◌==◌, List, length, slice_index, slice_index_or}
use Rattle.i3c_base.specs.declared.range.TheConstants.{ADDRESSES, SLOTS}
use Rattle.i3c_device.specs.declared.answering.Answering.{Answering}
use Rattle.i3c_device.specs.declared.slot_set.SlotSet.{SlotSet}
use Rattle.i3c_device.specs.Sets.{has}

-- the set of slots at an address
abbrev pub set_at : List SlotSet → ℕ → SlotSet
set_at sets a = slice_index_or sets a (record { bits = 0 })

-- the set kept for an address has just the slots with that address
pub record AreFound (kept : Answering) : Type 0 where
  pub every : length kept.addresses ≡ SLOTS
  pub all : length kept.slots ≡ ADDRESSES
  pub found : (a s : ℕ) → a < ADDRESSES → s < SLOTS → has (set_at kept.slots a) s ≡ (slice_index kept.addresses s == a)
