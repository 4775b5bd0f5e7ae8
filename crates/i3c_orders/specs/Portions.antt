-- Parts of all runs.
use Rattle.std.specs.Prelude.{ℕ}

-- a part of all runs: its index, from 0, among so many
pub record Portion : Type 0 where
  pub index : ℕ
  pub of : ℕ

-- the one part that has every run
abbrev pub whole : Portion
whole = record { index = 0; of = 1 }
