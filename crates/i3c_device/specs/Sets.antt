-- Sets of slots.
use Rattle.std.specs.Prelude.{◌≡◌, ℕ, ◌<◌, Bool, true, false, ◌==◌, None}
use Rattle.std.specs.Int.{bit_at}
use Rattle.i3c_base.specs.declared.range.TheConstants.{SLOTS}
use Rattle.i3c_base.specs.Cutting.{CutList, Lost, cut_of}
use Rattle.i3c_device.specs.declared.slot_set.SlotSet.{SlotSet}

-- the slot is in the set
abbrev pub has : SlotSet → ℕ → Bool
has slots s = bit_at slots.bits s == 1

-- no slot is in the set
abbrev pub IsNone : SlotSet → Type 0
IsNone slots = (s : ℕ) → s < SLOTS → has slots s ≡ false

-- slot i is the lowest of the set
abbrev pub IsLowestOf : SlotSet → ℕ → Type 0
IsLowestOf slots i = (i < SLOTS) × (has slots i ≡ true) × ((s : ℕ) → s < i → has slots s ≡ false)

-- a slot of the set isn't lost
abbrev pub SomeLeft : SlotSet → Lost → Type 0
SomeLeft slots lost = (s : ℕ) × (s < SLOTS) × (has slots s ≡ true) × (lost s ≡ false)

-- no slot of the set is cut
abbrev pub AreUncut : SlotSet → CutList → Type 0
AreUncut slots cuts = (s : ℕ) → s < SLOTS → has slots s ≡ true → cut_of cuts s ≡ None
