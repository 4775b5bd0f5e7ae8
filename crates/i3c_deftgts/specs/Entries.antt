-- The entries of a list: their addresses, and those that a controller's table has.
use Rattle.std.specs.Prelude.{◌≡◌, ℕ, suc, ◌<◌, Bool, false, ◌||◌, ◌==◌, List, [], ◌∷◌, ◌++◌, length, count_by, slice_index_or, slice_set, Option, Some, None, if◌then◌else◌, option_map}
use Rattle.std.specs.List.{list_any}
use Rattle.std.specs.Option.{option_to_list}
use Rattle.i3c_base.specs.declared.range.TheConstants.{ADDRESSES}
use Rattle.i3c_base.specs.declared.identity.Lvr.{Lvr}
use Rattle.i3c_base.specs.Covered.{Table}
use Rattle.i3c_base.specs.Places.{changed}
use Rattle.i3c_base.specs.State.{Entry as Given, entry_in}
use Rattle.i3c_base.specs.Sets.{is_in}
use Rattle.i3c_deftgts.specs.declared.entries.Entry.{Entry}
use Rattle.i3c_deftgts.specs.declared.entries.Entry.TheVariants.{Device, Legacy}

-- the address that an entry is of
abbrev pub address_of : Entry → ℕ
address_of (Device address dcr bcr fixed) = address
address_of (Legacy address lvr) = address

-- some entry has the address a
abbrev pub is_among : ℕ → List Entry → Bool
is_among a entries = list_any (λ entry. address_of entry == a) entries

-- two entries have one address
abbrev pub has_twice : List Entry → Bool
has_twice [] = false
has_twice (entry ∷ rest) = is_among (address_of entry) rest || has_twice rest

-- no two entries have one address
abbrev pub HaveOwnAddresses : List Entry → Type 0
HaveOwnAddresses entries = has_twice entries ≡ false

-- marks at the addresses of the entries, whose addresses are distinct
pub record AreMarked (marks : List Bool) (entries : List Entry) : Type 0 where
  pub long : length marks ≡ ADDRESSES
  pub marked : (a : ℕ) → a < ADDRESSES → slice_index_or marks a false ≡ is_among a entries
  pub counted : count_by (λ mark. mark) marks ≡ length entries
  pub own : HaveOwnAddresses entries

-- the entry of an address that was given to a device, with its static one
abbrev pub device_at : ℕ → Given → Entry
device_at a given = Device a given.dcr given.bcr given.fixed

-- the entry of the legacy target at a static address
abbrev pub legacy_at : ℕ → Lvr → Entry
legacy_at a lvr = Legacy a lvr

-- one entry for each place that holds something, by address upwards, where a is the address of the first place
abbrev pub upwards : {A : Type 0} → (ℕ → A → Entry) → ℕ → List (Option A) → List Entry
upwards entry a [] = []
upwards entry a (None ∷ rest) = upwards entry (suc a) rest
upwards entry a (Some x ∷ rest) = entry a x ∷ upwards entry (suc a) rest

-- the entry of the active controller's own address, if it is given
abbrev pub own_entry : Table → ℕ → List Entry
own_entry table own = option_to_list (option_map (device_at own) (entry_in table.given own))

-- the entries of a table's list: the own one, those of the other addresses that were given, and those of the legacy targets
abbrev pub entries_of : Table → ℕ → List Entry
entries_of table own = own_entry table own ++ (upwards device_at 0 (slice_set table.given own None) ++ upwards legacy_at 0 table.legacy)

-- what was given at the addresses of a set
abbrev pub given_in : ℕ → List (Option Given) → List (Option Given)
given_in set given = changed (λ a place. if is_in set a then place else None) given
