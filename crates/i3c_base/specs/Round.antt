-- Dynamic address assignment: opening a session, its rounds and its end.
use Rattle.std.specs.Prelude.{◌≡◌, ℕ, Bool, true, false, ◌&&◌, not, ◌⊎◌, Some, if◌then◌else◌, is_none, slice_set}
use Rattle.i3c_base.specs.declared.identity.Identity.{Identity}
use Rattle.i3c_base.specs.declared.answers.RoundReply.{RoundReply}
use Rattle.i3c_base.specs.Numbers.{IsBelow, same_identity}
use Rattle.i3c_base.specs.State.{Device, State, IsKept, IsPick, IsPickable, IsUnknown, device_at, each, kept_entry_of}
use Rattle.i3c_base.specs.Cutting.{CutList, Lost, lost_by}
use Rattle.i3c_base.specs.Serve.{emptied}

-- a device without an address hears the session that is opened
abbrev pub hears : Device → Device
hears d = if is_none d.address then record d { hearing = true } else d

-- a device hears no session
abbrev pub unhearing : Device → Device
unhearing d = record d { hearing = false }

-- ENTDAA: a session is open, which each device without an address hears
abbrev pub opened : State → State
opened st = record (each (λ s d. hears d) st) { in_session = true }

-- the session ends, and nobody hears any more
abbrev pub ended : State → State
ended st = record (each (λ s d. unhearing d) st) { in_session = false }

-- slot s holds device d, which hears the session
abbrev pub IsHearer : State → ℕ → Device → Type 0
IsHearer st s d = (device_at st s ≡ Some d) × (d.hearing ≡ true)

-- some device hears
abbrev pub AnyHears : State → Type 0
AnyHears st = (s : ℕ) × (d : Device) × IsHearer st s d

-- each hearer is lost (also where there is none)
abbrev pub AllHearersLost : State → Lost → Type 0
AllHearersLost st lost = (s : ℕ) (d : Device) → IsHearer st s d → lost s ≡ true

-- a hearer that isn't lost has the identity i
abbrev pub IsContender : State → Lost → Identity → Type 0
IsContender st lost i = (s : ℕ) × (d : Device) × IsHearer st s d × (lost s ≡ false) × (d.identity ≡ i)

-- a lost hearer's identity is below those of all hearers that aren't lost
abbrev pub IsBeatenByLost : State → Lost → Type 0
IsBeatenByLost st lost = (s : ℕ) × (d : Device) × IsHearer st s d × (lost s ≡ true) × ((i : Identity) → IsContender st lost i → IsBelow d.identity i)

-- i is the least identity of the hearers that aren't lost
abbrev pub IsWinner : State → Lost → Identity → Type 0
IsWinner st lost i = IsContender st lost i × ((j : Identity) → IsContender st lost j → ¬ IsBelow j i)

-- the address of a winner: the one kept for its identity, or otherwise the pick
abbrev pub IsAddressFor : State → Identity → ℕ → Type 0
IsAddressFor st i a = IsKept st i a ⊎ (IsUnknown st i × IsPick st a)

-- this device wins: it hears, isn't lost, and has the identity
abbrev pub wins : Lost → Identity → ℕ → Device → Bool
wins lost i s d = d.hearing && (not (lost s) && same_identity d.identity i)

-- a winner: it has the address a, hears no more and has lost its join wish
abbrev pub winner : ℕ → Device → Device
winner a d = record d { address = Some a; hearing = false; join_wish = false }

-- a device after a round that this identity won
abbrev pub assigned_at : Lost → Identity → ℕ → ℕ → Device → Device
assigned_at lost i a s d = if wins lost i s d then winner a d else d

-- the winners have the address a, which enters the table and is kept for the identity
abbrev pub assigned : Lost → Identity → ℕ → State → State
assigned lost i a st = record (each (assigned_at lost i a) st) {
  given = slice_set st.given a (Some (kept_entry_of st.declared i));
  listed = false;
}

-- an address is pickable
abbrev pub AnyPickable : State → Type 0
AnyPickable st = (a : ℕ) × IsPickable st a

-- One round. Its last bit is 0 if the header is NACKed, and 73 otherwise.
abbrev pub Rounds : State → CutList → RoundReply → State → Type 0
Rounds old cuts RoundReply.NoAddress new = ((a : ℕ) → ¬ IsPickable old a) × (new ≡ old)
Rounds old cuts RoundReply.Done new = AnyPickable old × AllHearersLost old (lost_by cuts 0) × (new ≡ emptied (lost_by cuts 0) old)
Rounds old cuts RoundReply.Nobody new =
    AnyPickable old × AnyHears old × (AllHearersLost old (lost_by cuts 73) ⊎ IsBeatenByLost old (lost_by cuts 73)) × (new ≡ emptied (lost_by cuts 73) old)
Rounds old cuts (RoundReply.Assigned a i) new =
    AnyPickable old × IsWinner old (lost_by cuts 73) i × IsAddressFor old i a × (new ≡ emptied (lost_by cuts 73) (assigned (lost_by cuts 73) i a old))
