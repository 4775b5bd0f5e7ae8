-- The least address that is kept for an identity.
use Rattle.std.proofs.Common.{◌≡◌, ◌≢◌, ℕ, ◌<◌, true, All, IfSome, List, MatchOption, get_or, Option, Some, None, sym, ap, ◌∙◌, inl, inr, arith}
use Rattle.std.proofs.lemmas.Bool.{cond-true, cond-false}
use Rattle.std.proofs.lemmas.List.Elements.{Contains-get_or}
use Rattle.std.proofs.lemmas.Option.{none-some, same_Some}
use Rattle.i3c_base.specs.declared.identity.Identity.{Identity}
use Rattle.i3c_base.specs.Numbers.{IsInRange, number_of}
use Rattle.i3c_base.specs.State.{Board, Entry, IsKeptIn, IsUnknownIn, IsUsable, entry_in, kept_of, known_in, is_identity}
use Rattle.i3c_legacy.proofs.FixedLaws.{is_identity-here, is_identity-other}
use Rattle.i3c_legacy.proofs.LeastLaws.{least_found, least_nowhere}
use Rattle.i3c_table.specs.declared.registers.Registers.{Registers}
use Rattle.i3c_table.specs.Ranks.{IsFirstOf, IsNoneOf}
use Rattle.i3c_base.specs.Sets.{is_in}
use Rattle.i3c_table.specs.Stored.{identity_of, stored, IsInOrder, IsWhole}
use Rattle.i3c_table.proofs.StoredLaws.{IsSmall, identity_again, kept_stored, number_again, some_or_none}

module _ (held kept : ℕ) (registers : List Registers) (numbers order : List ℕ) (identity : Identity) where
  not_kept_for : (a : ℕ) → IsSmall held → ((b : ℕ) → is_in kept b ≡ true → is_in held b ≡ true) → (is_in kept a ≡ true → get_or numbers a 0 ≢ number_of identity)
      → kept_of (entry_in (stored held kept registers numbers) a) ≢ Some identity
  not_kept_for a fits among other is = elim (some_or_none (is_in kept a)) [
    | inr out ↦ absurd (none-some identity (sym (cond-false (is_in kept a) _ None out) ∙ (sym (kept_stored held kept registers numbers a fits among) ∙ is)))
    | inl has ↦
        let same : identity_of (get_or numbers a 0) ≡ identity = same_Some _ _ (sym (cond-true (is_in kept a) _ None has) ∙ (sym (kept_stored held kept registers numbers a fits among) ∙ is)) in
        absurd (other has (sym (number_again (get_or numbers a 0)) ∙ ap number_of same))
  ]

  -- the first of its number
  known_at : (a : ℕ) → IsSmall held → ((b : ℕ) → is_in kept b ≡ true → is_in held b ≡ true) → IsInRange identity → IsInOrder kept numbers order
      → IsFirstOf numbers order (number_of identity) a → IsKeptIn (stored held kept registers numbers) identity a
  known_at a fits among in_range h first = (
    kept_stored held kept registers numbers a fits among ∙ (cond-true (is_in kept a) _ None (h.alone a first.0) ∙ ap Some (ap identity_of first.1 ∙ identity_again identity in_range)),
    λ b below. not_kept_for b fits among (λ has is. let least = first.2 b (h.all b has) is in absurd (omega (arith, least, below))),
  )

  -- what was found of its number
  pub known_is : (found : Option ℕ) → IsSmall held → ((b : ℕ) → is_in kept b ≡ true → is_in held b ≡ true) → IsInRange identity → IsInOrder kept numbers order
      → MatchOption found (IsNoneOf numbers order (number_of identity)) (IsFirstOf numbers order (number_of identity))
      → MatchOption found (IsUnknownIn (stored held kept registers numbers) identity) (λ a. IsKeptIn (stored held kept registers numbers) identity a)
  known_is None fits among in_range h none = λ a. not_kept_for a fits among (λ has. none a (h.all a has))
  known_is (Some a) fits among in_range h first = known_at a fits among in_range h first

module _ (held kept : ℕ) (numbers order : List ℕ) (board : Board) (whole : IsWhole held kept board) (h : IsInOrder kept numbers order) where
  pub known_usable : (number : ℕ) (found : Option ℕ) → MatchOption found (IsNoneOf numbers order number) (IsFirstOf numbers order number) → IfSome found IsUsable
  known_usable number None none = tt
  known_usable number (Some a) first = whole.usable a (whole.among a (h.alone a first.0))

  pub known_small : All (λ a. a < 128) order
  known_small k d l = let at_most = (whole.usable (get_or order k d) (whole.among (get_or order k d) (h.alone (get_or order k d) (Contains-get_or order k d l)))).1 in omega (arith, at_most)

-- what is found is the address that is known
pub found_known : (given : List (Option Entry)) (identity : Identity) (found : Option ℕ) → MatchOption found (IsUnknownIn given identity) (λ a. IsKeptIn given identity a) → IfSome found (λ a. a < 128) → found ≡ known_in given identity
found_known given identity None unknown fits = sym (least_nowhere (λ b. is_identity identity (kept_of (entry_in given b))) (λ b. is_identity-other identity (kept_of (entry_in given b)) (unknown b)))
found_known given identity (Some a) is fits =
    sym (least_found (λ b. is_identity identity (kept_of (entry_in given b))) a fits (is_identity-here identity (kept_of (entry_in given a)) is.0) (λ b l. is_identity-other identity (kept_of (entry_in given b)) (is.1 b l)))

pub usable_small : (found : Option ℕ) → IfSome found IsUsable → IfSome found (λ a. a < 128)
usable_small None h = tt
usable_small (Some a) h = let at_most = h.1 in omega (arith, at_most)
