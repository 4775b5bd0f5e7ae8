-- The least address that may be picked is the pick.
use Rattle.std.proofs.Common.{◌≡◌, ◌↔◌, ℕ, true, false, List, Option, None, Some, MatchOption}
use Rattle.std.proofs.lemmas.Bool.{both_ways}
use Rattle.i3c_base.specs.declared.identity.Identity.{Identity}
use Rattle.i3c_base.specs.declared.identity.Lvr.{Lvr}
use Rattle.i3c_base.specs.Sets.{is_in, IsLowest}
use Rattle.i3c_base.specs.State.{Entry, IsPickIn, IsPickableIn}

pub picked : (given : List (Option Entry)) (legacy : List (Option Lvr)) (declared : List (Option Identity)) (set : ℕ) (least : Option ℕ) → ((a : ℕ) → (is_in set a ≡ true) ↔ IsPickableIn given legacy declared a)
    → MatchOption least ((a : ℕ) → is_in set a ≡ false) (IsLowest set) → MatchOption least ((a : ℕ) → ¬ IsPickableIn given legacy declared a) (IsPickIn given legacy declared)
picked given legacy declared set None is none = λ a may. absurd (both_ways (is_in set a) (none a) ((is a).1 may))
picked given legacy declared set (Some a) is low = ((is a).0 low.0, λ b below may. absurd (both_ways (is_in set b) (low.1 b below) ((is b).1 may)))
