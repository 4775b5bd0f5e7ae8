-- How far the numbers reach that aren't 0.
use Rattle.std.specs.Prelude.{◌≡◌, ℕ, ◌≤◌, List, get_or, length}
use Rattle.i3c_base.specs.declared.range.TheConstants.{SLOTS}

-- there is a number for each slot, and those at or behind the span are 0
pub record IsSpanned (span : ℕ) (numbers : List ℕ) : Type 0 where
  pub long : length numbers ≡ SLOTS
  pub within : span ≤ SLOTS
  pub rest : (k : ℕ) → span ≤ k → get_or numbers k 0 ≡ 0
