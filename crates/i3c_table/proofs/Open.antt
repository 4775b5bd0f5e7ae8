-- The addresses that were given, and those that may be picked.
use Rattle.std.proofs.Common.{◌≡◌, ◌↔◌, ℕ, ◌&&◌, ◌||◌, Bool, true, false, not, List, Option, IsSome, Some, None, is_some, slice_index_or, sym, refl, ap, ◌∙◌, inl, inr}
use Rattle.std.proofs.lemmas.Bool.{and_from, and_parts, both_ways, cond-true}
use Rattle.i3c_base.specs.Sets.{is_in}
use Rattle.i3c_base.specs.State.{Board, IsPickableIn, IsUsable, entry_in}
use Rattle.i3c_table.specs.declared.registers.Registers.{Registers}
use Rattle.i3c_table.specs.Stored.{stored}
use Rattle.i3c_table.proofs.StoredLaws.{IsSmall, entry_stored, free_stored, out_of, some_or_none}

-- those that were given
pub given_bits : (held kept : ℕ) (registers : List Registers) (numbers : List ℕ) → IsSmall held → (a : ℕ) → (is_in held a ≡ true) ↔ IsSome (entry_in (stored held kept registers numbers) a)
given_bits held kept registers numbers fits a = (
  λ has. rw (entry_stored held kept registers numbers a fits ∙ cond-true (is_in held a) _ None has) refl,
  λ stands. elim (some_or_none (is_in held a)) [
    | inl has ↦ has
    | inr out ↦ let no : ◌≡◌ {A = Bool} false true = rw (entry_stored held kept registers numbers a fits ∙ out_of held kept registers numbers a out) at stands in absurd (both_ways true (sym no) refl)
  ],
)

-- those that may be picked: usable, in neither set
pub open_bits : (held kept : ℕ) (registers : List Registers) (numbers : List ℕ) (board : Board) (usable taken some left : ℕ) → IsSmall held → ((a : ℕ) → (is_in usable a ≡ true) ↔ IsUsable a)
    → ((a : ℕ) → is_in taken a ≡ (is_some (slice_index_or board.legacy a None) || is_some (slice_index_or board.declared a None))) → ((a : ℕ) → is_in some a ≡ (is_in usable a && not (is_in held a))) → ((a : ℕ) → is_in left a ≡ (is_in some a && not (is_in taken a)))
    → (a : ℕ) → (is_in left a ≡ true) ↔ IsPickableIn (stored held kept registers numbers) board.legacy board.declared a
open_bits held kept registers numbers board usable taken some left fits is_usable is_taken is_some_of is_left a = (
  λ has.
      let last = and_parts (is_in some a) (not (is_in taken a)) (sym (is_left a) ∙ has) in
      let first = and_parts (is_in usable a) (not (is_in held a)) (sym (is_some_of a) ∙ last.0) in
      ((is_usable a).0 first.0, entry_stored held kept registers numbers a fits ∙ out_of held kept registers numbers a (isnt _ first.1), nothing (slice_index_or board.legacy a None) (neither _ _ (sym (is_taken a) ∙ isnt _ last.1)).0, nothing (slice_index_or board.declared a None) (neither _ _ (sym (is_taken a) ∙ isnt _ last.1)).1),
  λ may. is_left a ∙ and_from _ _ (is_some_of a ∙ and_from _ _ ((is_usable a).1 may.0) (ap not (free_stored held kept registers numbers a fits may.1))) (ap not (is_taken a ∙ (λ k. is_some (may.2 k) || is_some (may.3 k)))),
)
  where
    isnt : (b : Bool) → not b ≡ true → b ≡ false
    isnt false e = refl
    isnt true e = absurd (both_ways true (sym e) refl)

    neither : (a b : Bool) → (a || b) ≡ false → (a ≡ false) × (b ≡ false)
    neither false b e = (refl, e)
    neither true b e = absurd (both_ways true e refl)

    nothing : {A : Type 0} (o : Option A) → is_some o ≡ false → o ≡ None
    nothing None e = refl
    nothing (Some x) e = absurd (both_ways true e refl)
