-- How names are kept.
use Rattle.std.specs.Prelude.{◌≡◌, ℕ, Option, None, Some, Result, slice_index_or, slice_set}
use Rattle.i3c_lines.specs.declared.names.Name.{Name}
use Rattle.i3c_lines.specs.declared.names.Names.{Names}
use Rattle.i3c_lines.specs.declared.names.Place.{Place}
use Rattle.i3c_lines.specs.declared.refusals.Refusal.{Refusal}
use Rattle.i3c_lines.specs.Naming.{GivesSlot, legacy_names, place_named, slot_named, slot_names}

-- how names are kept: what a name stands for, the name of a slot and of a legacy target's address, and how a slot is given one
pub record NamesKept (N : Type 0) : Type 1 where
  pub place : N → Name → Option Place
  pub in_slot : N → ℕ → Option Name
  pub at_address : N → ℕ → Option Name
  pub gives : N → N → Name → ℕ → Type 0

-- the device of a slot gets this name
pub record NamesSlot (old new : Names) (name : Name) (slot : ℕ) : Type 0 where
  pub given : GivesSlot old new name slot
  pub slots : slot_names new ≡ slice_set (slot_names old) slot (Some name)
  pub legacies : legacy_names new ≡ legacy_names old

-- the name that was last given to a slot
abbrev pub name_of_slot : Names → ℕ → Option Name
name_of_slot names slot = slice_index_or (slot_names names) slot None

-- the name of the legacy target at a static address
abbrev pub name_at_address : Names → ℕ → Option Name
name_at_address names address = slice_index_or (legacy_names names) address None

-- how `Names` are kept
abbrev pub names_kept : NamesKept Names
names_kept = record { place = place_named; in_slot = name_of_slot; at_address = name_at_address; gives = NamesSlot }

-- the slot of the device that a name means; the device may be gone
abbrev pub slot_meant : {N : Type 0} → NamesKept N → N → Name → Result ℕ Refusal
slot_meant kept names name = slot_named (kept.place names name)
