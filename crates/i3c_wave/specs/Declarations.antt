-- What a dump has declared: its signals, and the scopes that are open.
use Rattle.std.specs.Prelude.{ℕ, List}

pub record Declarations : Type 0 where
  -- the names of the open scopes, each with a dot behind it
  pub path : List ℕ
  -- for each of them the length of the path before it
  pub scopes : List ℕ
  -- the name of the signal that is declared, as far as it was read
  pub name : List ℕ
  -- the names of all signals, each on a line of its own
  pub names : List ℕ
