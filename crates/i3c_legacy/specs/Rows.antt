-- Rows, each with an address of its own, seen as the places of all 128 addresses.
use Rattle.std.specs.Prelude.{◌≡◌, ℕ, ◌<◌, ◌==◌, nat_eq, List, map, find, All, Option, option_map}
use Rattle.std.specs.List.{IsDistinct, range_with_len}
use Rattle.i3c_base.specs.declared.range.TheConstants.{ADDRESSES}
use Rattle.i3c_base.specs.Sets.{is_in}
use Rattle.i3c_base.specs.State.{Board}
use Rattle.i3c_legacy.specs.Declaring.{is_taken}

-- the row with the address a
abbrev pub row_at : {R : Type 0} → (R → ℕ) → List R → ℕ → Option R
row_at address rows a = find (λ row. address row == a) rows

-- at each address the value of its row, if it has one
unfoldable pub places : {R A : Type 0} → (R → ℕ) → (R → A) → List R → List (Option A)
places address value rows = map (λ a. option_map value (row_at address rows a)) (range_with_len 0 ADDRESSES)

-- the rows have distinct addresses, of 7 bits each
pub record HasOwnAddresses {R : Type 0} (address : R → ℕ) (rows : List R) : Type 0 where
  pub distinct : IsDistinct nat_eq (map address rows)
  pub in_range : All (λ row. address row < ADDRESSES) rows

-- the set has just the static addresses at which something is declared
abbrev pub IsSetOf : Board → ℕ → Type 0
IsSetOf board set = (a : ℕ) → is_in set a ≡ is_taken board a
