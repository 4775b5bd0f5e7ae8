-- Sums that may be too large.
use Rattle.std.specs.Prelude.{◌≡◌, ℕ, ◌+◌, ◌<◌, Result, MatchResult}
use Rattle.std.specs.declared.alloc.AllocError.{AllocError}

-- a sum, or none where it is more than 64 bits hold
abbrev pub IsSum : ℕ → ℕ → Result ℕ AllocError → Type 0
IsSum count more result = MatchResult result (λ sum. sum ≡ count + more) (λ why. 18446744073709551615 < count + more)
