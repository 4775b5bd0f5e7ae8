-- What a table stores at each address, seen as the entries there.
use Rattle.std.specs.Prelude.{◌≡◌, ℕ, ◌<◌, ◌≤◌, ◌/◌, ◌%◌, ◌&&◌, true, List, map, find, Option, Some, None, option_and_then, if◌then◌else◌, count_by, length, slice_index_or}
use Rattle.std.specs.List.{range_with_len, Contains}
use Rattle.std.specs.List.Sorted.{IsNonDecreasingBy}
use Rattle.i3c_base.specs.declared.identity.Identity.{Identity}
use Rattle.i3c_base.specs.declared.range.TheConstants.{ADDRESSES}
use Rattle.i3c_base.specs.State.{Board, Entry, IsFree, IsUsable, declared_in, is_the}
use Rattle.i3c_table.specs.declared.registers.Registers.{Registers}
use Rattle.i3c_table.specs.Ranks.{rank}
use Rattle.i3c_base.specs.Sets.{is_in}

-- the identity of a number
abbrev pub identity_of : ℕ → Identity
identity_of n = record { pid = n / 65536; bcr = record { 0 = n / 256 % 256 }; dcr = record { 0 = n % 256 } }

-- the registers of an address that isn't given
abbrev pub no_registers : Registers
no_registers = record { bcr = record { 0 = 0 }; dcr = record { 0 = 0 }; fixed = None }

-- the identity that the address a is kept for, if a is in the set
abbrev pub kept_at : ℕ → List ℕ → ℕ → Option Identity
kept_at kept numbers a = if is_in kept a then Some (identity_of (slice_index_or numbers a 0)) else None

-- the entry at the address a, if a is in the set of those that were given
abbrev pub stored_at : ℕ → ℕ → List Registers → List ℕ → ℕ → Option Entry
stored_at held kept registers numbers a =
    if is_in held a then Some (record { bcr = (slice_index_or registers a no_registers).bcr; dcr = (slice_index_or registers a no_registers).dcr; kept = kept_at kept numbers a; fixed = (slice_index_or registers a no_registers).fixed }) else None

-- both have the same registers and the same number at the address a
abbrev pub IsStoredAlike : List Registers → List ℕ → List Registers → List ℕ → ℕ → Type 0
IsStoredAlike registers numbers others more a = (slice_index_or registers a no_registers ≡ slice_index_or others a no_registers) × (slice_index_or numbers a 0 ≡ slice_index_or more a 0)

-- the entries at all addresses
unfoldable pub stored : ℕ → ℕ → List Registers → List ℕ → List (Option Entry)
stored held kept registers numbers = map (stored_at held kept registers numbers) (range_with_len 0 ADDRESSES)

-- the least address of a set at which the static address f is stored
unfoldable pub home_stored : ℕ → List Registers → ℕ → Option ℕ
home_stored among registers f = find (λ a. is_in among a && is_the f (slice_index_or registers a no_registers).fixed) (range_with_len 0 ADDRESSES)

-- the identity that the address a is kept for again: the one declared at its static address, if a is the least address with
-- that one
unfoldable pub again_stored : List (Option Identity) → ℕ → List Registers → ℕ → Option Identity
again_stored declared among registers a =
    option_and_then (λ f. if is_the a (home_stored among registers f) then declared_in declared f else None) (slice_index_or registers a no_registers).fixed

-- addresses that were given are usable and nobody's static ones, and those that are kept were given
pub record IsWhole (held kept : ℕ) (board : Board) : Type 0 where
  pub usable : (a : ℕ) → is_in held a ≡ true → IsUsable a
  pub apart : (a : ℕ) → is_in held a ≡ true → IsFree board.legacy a
  pub undeclared : (a : ℕ) → is_in held a ≡ true → IsFree board.declared a
  pub among : (a : ℕ) → is_in kept a ≡ true → is_in held a ≡ true

-- lists of registers and of numbers that reach as far as the addresses that were given
pub record IsReaching (held many numbered : ℕ) : Type 0 where
  pub few : many ≤ ADDRESSES
  pub few_numbers : numbered ≤ ADDRESSES
  pub reached : (a : ℕ) → is_in held a ≡ true → (a < many) × (a < numbered)

-- the lists of two tables reach as far as the address a
abbrev pub IsReached : ℕ → ℕ → ℕ → ℕ → ℕ → Type 0
IsReached many numbered others more a = (a < many) × (a < numbered) × (a < others) × (a < more)

-- rows that are stored in lists which reach that far, and the addresses of those that are kept
pub record AreRows (held kept : ℕ) (order : List ℕ) (many numbered : ℕ) : Type 0 where
  pub among : (a : ℕ) → is_in kept a ≡ true → is_in held a ≡ true
  pub all : (a : ℕ) → is_in kept a ≡ true → Contains order a
  pub alone : (a : ℕ) → Contains order a → is_in kept a ≡ true
  pub reaching : IsReaching held many numbered

-- the list has the addresses that are kept, each once, by their numbers
pub record IsInOrder (kept : ℕ) (numbers order : List ℕ) : Type 0 where
  pub ranked : IsNonDecreasingBy (rank numbers) order
  pub all : (a : ℕ) → is_in kept a ≡ true → Contains order a
  pub alone : (a : ℕ) → Contains order a → is_in kept a ≡ true
  pub once : length order ≡ count_by (is_in kept) (range_with_len 0 ADDRESSES)
