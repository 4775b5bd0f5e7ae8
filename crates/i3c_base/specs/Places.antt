-- Lists of numbered places, such as slots and addresses.
use Rattle.std.specs.Prelude.{ℕ, suc, ◌==◌, List, [], ◌∷◌, Option, Some, None, if◌then◌else◌}
use Rattle.std.specs.Int.{bit_at}

-- each place changed by f, which is given its number; the first one's is n
abbrev pub changed_from : {A : Type 0} → ℕ → (ℕ → A → A) → List A → List A
changed_from n f [] = []
changed_from n f (x ∷ xs) = f n x ∷ changed_from (suc n) f xs

-- each place changed by f
abbrev pub changed : {A : Type 0} → (ℕ → A → A) → List A → List A
changed f places = changed_from 0 f places

-- the numbers at the places that a mask names, the first one's place is n
abbrev pub masked_from : ℕ → ℕ → List ℕ → List (Option ℕ)
masked_from n mask [] = []
masked_from n mask (x ∷ xs) = (if bit_at mask n == 1 then Some x else None) ∷ masked_from (suc n) mask xs
