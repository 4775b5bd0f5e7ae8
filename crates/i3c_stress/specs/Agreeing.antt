-- When the counts of a stress agree.
use Rattle.std.specs.Prelude.{◌≡◌, ℕ, ◌+◌, ◌≤◌}
use Rattle.i3c_stress.specs.declared.report.Counted.{Counted}

-- the posts are at most the tries, each post was accepted or refused, and each accepted one is recorded or waits
pub record Agree (tried posted : ℕ) (c : Counted) : Type 0 where
  pub within : posted ≤ tried
  pub taken : posted ≡ c.accepted + c.refused
  pub kept : c.accepted ≡ c.recorded + c.waiting
