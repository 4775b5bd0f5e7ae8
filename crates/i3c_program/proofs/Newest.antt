-- A run's newest line.
use Rattle.std.proofs.Common.{◌≡◌, ◌+◌, ◌-◌, ◌∷◌, [], ℕ, suc, zero, List, Some, None, ap, arith, length, refl}
use Rattle.std.proofs.lemmas.Option.{same_Some}
use Rattle.std.specs.List.{slice_get}
use Rattle.i3c_orders.specs.declared.choice.Choice.{Choice}
use Rattle.i3c_program.specs.Choosing.{number_for, ways_in}

module _ {L S A : Type 0} where
  none_there : (choice : Choice L S A) → None ≡ Some choice → ⊥
  none_there choice e = cc

  ways_at : (path : List (Choice L S A)) (n : ℕ) (choice : Choice L S A) → n + 1 ≡ length path → slice_get path n ≡ Some choice → ways_in path ≡ suc (length choice.left.items)
  ways_at [] n choice last is = absurd (none_there choice is)
  ways_at (first ∷ []) zero choice last is = ap (λ (c : Choice L S A). suc (length c.left.items)) (same_Some first choice is)
  ways_at (first ∷ []) (suc n) choice last is = absurd (none_there choice is)
  ways_at (first ∷ next ∷ path) zero choice last is = absurd (omega (arith, last))
  ways_at (first ∷ next ∷ path) (suc n) choice last is = ways_at (next ∷ path) n choice (omega (arith, last)) is

  -- how many answers are left for the last line of a path is told by its choice
  pub ways_of_last : (path : List (Choice L S A)) (choice : Choice L S A) → slice_get path (length path - 1) ≡ Some choice → ways_in path ≡ suc (length choice.left.items)
  ways_of_last [] choice is = absurd (none_there choice is)
  ways_of_last (first ∷ path) choice is = ways_at (first ∷ path) (length (first ∷ path) - 1) choice (omega arith) is

  -- a path whose last line has no answers has no line
  pub no_line : (path : List (Choice L S A)) → ways_in path ≡ 0 → path ≡ []
  no_line [] none = refl
  no_line (first ∷ []) none = absurd (omega (arith, none))
  no_line (first ∷ next ∷ path) none = absurd (some_line next path none)
    where
      some_line : (next : Choice L S A) (path : List (Choice L S A)) → ways_in (next ∷ path) ≡ 0 → ⊥
      some_line next [] is = omega (arith, is)
      some_line next (more ∷ path) is = some_line more path is

  pub some_ways : (path : List (Choice L S A)) → (ways_in path ≡ 0 → ⊥) → (count : ℕ) × (length path ≡ suc count)
  some_ways [] some = absurd (some refl)
  some_ways (first ∷ path) some = (length path, refl)

  -- the number for a line stands at the line's place
  pub number_at_place : (numbers : List ℕ) (run : List (Choice L S A)) (place : ℕ) → length run ≡ suc place → number_for numbers run ≡ slice_get numbers place
  number_at_place numbers [] place is = absurd (omega (arith, is))
  number_at_place numbers (first ∷ run) place is = let same : length run ≡ place = omega (arith, is) in ap (λ n. slice_get numbers n) same
