-- A table at rest that comes to another table.
use Rattle.std.specs.Prelude.{◌≡◌, ℕ, is_some}
use Rattle.i3c_base.specs.Covered.{Table}
use Rattle.i3c_base.specs.State.{entry_in}

-- both were given the same addresses, and the same is declared in both
abbrev pub HasRoom : Table → Table → Type 0
HasRoom resting table = ((a : ℕ) → is_some (entry_in resting.given a) ≡ is_some (entry_in table.given a)) × (resting.legacy ≡ table.legacy) × (resting.declared ≡ table.declared)
