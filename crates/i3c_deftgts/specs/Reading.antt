-- What words are read as: the entries of a list, or the first of five faults.
use Rattle.std.specs.Prelude.{◌≡◌, ◌≢◌, IfSome, ℕ, ◌+◌, ◌-◌, ◌/◌, ◌%◌, Bool, false, not, ◌==◌, ◌||◌, nat_lt, List, [], ◌∷◌, length, map, Option, Some, None, option_map, is_none, count_ones, if◌then◌else◌}
use Rattle.std.specs.List.{filter_map, position_from}
use Rattle.i3c_base.specs.Covered.{Table}
use Rattle.i3c_base.specs.State.{entry_in}
use Rattle.i3c_word.specs.declared.Word.{Word}
use Rattle.i3c_word.specs.Parity.{bit_of}
use Rattle.i3c_deftgts.specs.declared.entries.Entry.{Entry}
use Rattle.i3c_deftgts.specs.declared.entries.Entry.TheVariants.{Device, Legacy}
use Rattle.i3c_deftgts.specs.declared.faults.ListFault.{ListFault}
use Rattle.i3c_deftgts.specs.declared.faults.ListFault.TheVariants.{Parity, Truncated, Count, Address, Twice}
use Rattle.i3c_deftgts.specs.Entries.{has_twice}
use Rattle.i3c_deftgts.specs.Layout.{bytes}

-- the address in bits 7:1 of a byte, if it isn't 0
abbrev pub address_in : ℕ → Option ℕ
address_in byte = if byte / 2 == 0 then None else Some (byte / 2)

-- the static address in the fourth byte of the first entry; 7E means none
abbrev pub first_static : ℕ → Option ℕ
first_static byte = if byte / 2 == 0x7E then None else address_in byte

-- the first entry, of its four bytes, if it has a dynamic address
abbrev pub first_entry : ℕ → ℕ → ℕ → ℕ → Option Entry
first_entry address dcr bcr fixed = option_map (λ a. Device a (record { 0 = dcr }) (record { 0 = bcr }) (first_static fixed)) (address_in address)

-- an entry with these addresses, if it has one: a device where it has a dynamic one
abbrev pub entry_at : Option ℕ → ℕ → ℕ → Option ℕ → Option Entry
entry_at (Some address) dcr bcr fixed = Some (Device address (record { 0 = dcr }) (record { 0 = bcr }) fixed)
entry_at None lvr third (Some address) = Some (Legacy address (record { 0 = lvr }))
entry_at None lvr third None = None

-- a later entry, of its four bytes
abbrev pub later_entry : ℕ → ℕ → ℕ → ℕ → Option Entry
later_entry address code bcr fixed = entry_at (address_in address) code bcr (address_in fixed)

-- the entries after the first one, four bytes each, None for one that lacks its address
abbrev pub later_entries : List ℕ → List (Option Entry)
later_entries (a ∷ b ∷ c ∷ d ∷ rest) = later_entry a b c d ∷ later_entries rest
later_entries _ = []

-- the entries after the count
abbrev pub entries_in : List ℕ → List (Option Entry)
entries_in (count ∷ a ∷ b ∷ c ∷ d ∷ rest) = first_entry a b c d ∷ later_entries rest
entries_in _ = []

-- a word's T bit is wrong
abbrev pub has_wrong_t : Word → Bool
has_wrong_t word = not ((count_ones word.byte + bit_of word.t) % 2 == 1)

-- this number of words has no count, or no entry, or an entry of fewer than four words
abbrev pub is_cut_short : ℕ → Bool
is_cut_short words = nat_lt words 5 || not ((words - 1) % 4 == 0)

-- a count fits this number of entries, with the first one counted or not
abbrev pub is_count : ℕ → ℕ → Bool
is_count count entries = (count == entries) || (count + 1 == entries)

-- the first byte is no count of `entries` entries
abbrev pub is_miscounted : List ℕ → ℕ → Bool
is_miscounted [] entries = false
is_miscounted (count ∷ rest) entries = not (is_count count entries)

-- a fault, if it is one
abbrev pub said : Bool → ListFault → Option ListFault
said wrong fault = if wrong then Some fault else None

-- the first entry that lacks its address, counted from 1
abbrev pub missing_address : List (Option Entry) → Option ListFault
missing_address entries = option_map Address (position_from is_none 1 entries)

-- two entries have one address
abbrev pub same_address : List (Option Entry) → Option ListFault
same_address entries = said (has_twice (filter_map (λ entry. entry) entries)) Twice

-- the first of faults that were said
abbrev pub first_of : List (Option ListFault) → Option ListFault
first_of [] = None
first_of (None ∷ rest) = first_of rest
first_of (Some fault ∷ rest) = Some fault

-- the first fault of the entries' addresses
abbrev pub entry_fault : List (Option Entry) → Option ListFault
entry_fault entries = first_of (missing_address entries ∷ same_address entries ∷ [])

-- the first fault of words: a T bit, counted from 1; too few words; the count; a missing address; one address twice
abbrev pub first_fault : List Word → Option ListFault
first_fault words =
    let entries = entries_in (bytes words) in
    first_of (
    option_map Parity (position_from has_wrong_t 1 words)
    ∷ said (is_cut_short (length words)) Truncated
    ∷ said (is_miscounted (bytes words) (length entries)) Count
    ∷ missing_address entries
    ∷ same_address entries
    ∷ [])

-- a list can tell the static addresses of a table: none is 00, which says that there is none, and of the controller's own row none is
-- 7E, which says so in the first entry
pub record AreTellable (table : Table) (own : ℕ) : Type 0 where
  pub each : (a : ℕ) → IfSome (entry_in table.given a) (λ entry. entry.fixed ≢ Some 0x00)
  pub first : IfSome (entry_in table.given own) (λ entry. entry.fixed ≢ Some 0x7E)

-- the words are read as these entries
pub record ReadAs (words : List Word) (entries : List Entry) : Type 0 where
  pub flawless : first_fault words ≡ None
  pub same : entries_in (bytes words) ≡ map Some entries
