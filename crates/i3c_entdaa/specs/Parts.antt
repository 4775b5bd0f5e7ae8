-- What the parts of a round say: the contest behind the header, and the address that is sent.
use Rattle.std.specs.Prelude.{◌≡◌, ◌⊎◌, ◌<◌, ℕ, Bool, true, false, not, ◌&&◌, List, Option, Some, None, slice_index_or}
use Rattle.i3c_base.specs.declared.range.TheConstants.{SLOTS}
use Rattle.i3c_base.specs.declared.identity.Identity.{Identity}
use Rattle.i3c_base.specs.Covered.{Table}
use Rattle.i3c_base.specs.Cutting.{CutList, lost_by}
use Rattle.i3c_base.specs.Numbers.{IsInRange, number_of}
use Rattle.i3c_base.specs.Round.{AllHearersLost, IsBeatenByLost, IsWinner}
use Rattle.i3c_base.specs.State.{Device, State, IsKeptIn, IsPickIn, IsUnknownIn}
use Rattle.i3c_device.specs.declared.slot_set.SlotSet.{SlotSet}
use Rattle.i3c_device.specs.Sets.{has}
use Rattle.i3c_device.specs.Walks.{hears_as}
use Rattle.i3c_entdaa.specs.Rounds.{IsContested, IsHeard, IsTaken}

-- the address that a table has for an identity: the one kept for it, or otherwise the pick
abbrev pub IsAddressIn : Table → Identity → ℕ → Type 0
IsAddressIn table i a = IsKeptIn table.given i a ⊎ (IsUnknownIn table.given i × IsPickIn table.given table.legacy table.declared a)

-- a contest behind an acknowledged header read these bits, and the address byte after them is acknowledged or not
pub record IsContest (st : State) (cuts : CutList) (bits : ℕ) (acknowledged : Bool) : Type 0 where
  pub heard : IsHeard st cuts
  pub contested : IsContested cuts st.devices bits
  pub won : acknowledged ≡ true → (i : Identity) × IsInRange i × (number_of i ≡ bits) × IsWinner st (lost_by cuts 73) i
  pub lost : acknowledged ≡ false → (¬ IsTaken st cuts bits) × (AllHearersLost st (lost_by cuts 73) ⊎ IsBeatenByLost st (lost_by cuts 73))

-- these slots acknowledge the address that is sent after these bits: their devices hear, have the identity of the bits and aren't lost
abbrev pub AreTakers : CutList → List (Option Device) → ℕ → SlotSet → Type 0
AreTakers cuts devices bits takers = (s : ℕ) → s < SLOTS → has takers s ≡ (hears_as bits (slice_index_or devices s None) && not (lost_by cuts 73 s))

-- the parts of the identity of each hearer are in their ranges
abbrev pub HearersAreRanged : List (Option Device) → Type 0
HearersAreRanged devices = (s : ℕ) (d : Device) → slice_index_or devices s None ≡ Some d → d.hearing ≡ true → IsInRange d.identity
