-- Sets of places in a list, as numbers.
use Rattle.std.specs.Prelude.{ℕ, ◌+◌, ◌*◌, ◌==◌, Bool, false, cond, List, [], ◌∷◌, Option, Some, None}

-- the places of the elements that pass a test: the bit of the first one's place is the lowest
abbrev pub mask_of : {X : Type 0} → (X → Bool) → List X → ℕ
mask_of p [] = 0
mask_of p (x ∷ xs) = cond (p x) 1 0 + 2 * mask_of p xs

-- the cut is at this bit
abbrev pub is_at : ℕ → Option ℕ → Bool
is_at bit None = false
is_at bit (Some cut) = cut == bit
