-- Requests as contenders for the lines.
use Rattle.std.specs.Prelude.{ℕ, suc, ◌+◌, ◌*◌, List, [], ◌∷◌}
use Rattle.i3c_base.specs.declared.requests.Request.{Request}
use Rattle.i3c_header.specs.Keys.{address_of, rnw_of}

-- each request's key, under its place in the list; the first one's place is n
abbrev pub keyed : ℕ → List Request → List (ℕ × ℕ)
keyed n [] = []
keyed n (r ∷ rs) = (n, 2 * address_of r + rnw_of r) ∷ keyed (suc n) rs
