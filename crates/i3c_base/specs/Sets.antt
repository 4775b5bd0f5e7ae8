-- Sets of addresses.
use Rattle.std.specs.Prelude.{◌≡◌, ℕ, ◌<◌, ◌==◌, Bool, true, false}
use Rattle.std.specs.Int.{bit_at}

-- the set has the address a
abbrev pub is_in : ℕ → ℕ → Bool
is_in set a = bit_at set a == 1

-- the least address that the set has
abbrev pub IsLowest : ℕ → ℕ → Type 0
IsLowest set a = (is_in set a ≡ true) × ((b : ℕ) → b < a → is_in set b ≡ false)
