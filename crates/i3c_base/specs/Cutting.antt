-- Drop-offs inside a frame: the bits at which devices lose power, and which devices a frame loses.
use Rattle.std.specs.Prelude.{◌≡◌, ℕ, ◌-◌, Bool, false, nat_le, List, Option, Some, None, map, min, option_map, replicate, slice_index_or}
use Rattle.i3c_base.specs.declared.range.TheConstants.{SLOTS}

-- cuts by slot
abbrev pub CutList : Type 0
CutList = List (Option ℕ)

-- the bit at which a slot is cut, if it is
abbrev pub cut_of : CutList → ℕ → Option ℕ
cut_of cuts s = slice_index_or cuts s None

-- no slot is cut
abbrev pub IsUncut : CutList → Type 0
IsUncut cuts = (s : ℕ) → cut_of cuts s ≡ None

-- the cuts of a frame in which no device loses power
unfoldable pub no_cuts : CutList
no_cuts = replicate SLOTS None

-- the earlier of a bit and the one that a slot had
abbrev pub earlier : Option ℕ → ℕ → ℕ
earlier None bit = bit
earlier (Some had) bit = min had bit

-- the same cuts with their bits counted from a later one; those before it are at it
abbrev pub counted_from : ℕ → CutList → CutList
counted_from first cuts = map (option_map (λ (bit : ℕ). bit - first)) cuts

-- a set of slots: the devices that a frame loses
abbrev pub Lost : Type 0
Lost = ℕ → Bool

-- no device is lost
abbrev pub nobody : Lost
nobody s = false

-- there is a cut, at this bit or before
abbrev pub is_by : ℕ → Option ℕ → Bool
is_by last None = false
is_by last (Some bit) = nat_le bit last

-- the slots cut at or before the last bit that a frame sends
abbrev pub lost_by : CutList → ℕ → Lost
lost_by cuts last s = is_by last (cut_of cuts s)
