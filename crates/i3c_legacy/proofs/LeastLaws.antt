-- The least number that passes a test.
use Rattle.std.proofs.Common.{◌≡◌, ℕ, zero, suc, ◌+◌, ◌<◌, ◌≤◌, Bool, true, false, Some, None, ◌⊎◌, sym, refl, ap, ◌∙◌, inl, inr, arith}
use Rattle.std.specs.List.{find, range_with_len}
use Rattle.std.proofs.lemmas.Bool.{cases_eq, cond-true, cond-false}
use Rattle.std.proofs.lemmas.Option.{none-some}
use Rattle.i3c_base.specs.declared.range.TheConstants.{ADDRESSES}

module _ (test : ℕ → Bool) where
  least_from : (n m a : ℕ) → m ≤ a → a < m + n → test a ≡ true → ((b : ℕ) → m ≤ b → b < a → test b ≡ false) → find test (range_with_len m n) ≡ Some a
  least_from zero m a from below here before = absurd (omega arith)
  least_from (suc n) m a from below here before = elim (cases_eq m a) [
    | inl e ↦ cond-true (test m) (Some m) (find test (range_with_len (m + 1) n)) (ap test e ∙ here) ∙ ap Some e
    | inr other ↦
        cond-false (test m) (Some m) (find test (range_with_len (m + 1) n)) (before m (omega arith) (omega (arith, other)))
        ∙ least_from n (m + 1) a (omega (arith, other)) (omega arith) here (λ b l. before b (omega (arith, l)))
  ]

  -- it is found
  pub least_found : (a : ℕ) → a < ADDRESSES → test a ≡ true → ((b : ℕ) → b < a → test b ≡ false) → find test (range_with_len 0 ADDRESSES) ≡ Some a
  least_found a l here before = least_from ADDRESSES 0 a (omega arith) (omega arith) here (λ b _. before b)

  nowhere_from : (n m : ℕ) → ((b : ℕ) → test b ≡ false) → find test (range_with_len m n) ≡ None
  nowhere_from zero m none = refl
  nowhere_from (suc n) m none = cond-false (test m) (Some m) (find test (range_with_len (m + 1) n)) (none m) ∙ nowhere_from n (m + 1) none

  -- where no number passes, none is found
  pub least_nowhere : ((b : ℕ) → test b ≡ false) → find test (range_with_len 0 ADDRESSES) ≡ None
  least_nowhere none = nowhere_from ADDRESSES 0 none

  some_or_none : (b : Bool) → (b ≡ true) ⊎ (b ≡ false)
  some_or_none true = inl refl
  some_or_none false = inr refl

  fails_from : (n m b : ℕ) → find test (range_with_len m n) ≡ None → m ≤ b → b < m + n → test b ≡ false
  fails_from zero m b h from below = absurd (omega arith)
  fails_from (suc n) m b h from below = elim (some_or_none (test m)) [
    | inl passes ↦ absurd (none-some m (sym h ∙ cond-true (test m) (Some m) (find test (range_with_len (m + 1) n)) passes))
    | inr fails ↦ elim (cases_eq m b) [
      | inl e ↦ ap test (sym e) ∙ fails
      | inr other ↦ fails_from n (m + 1) b (sym (cond-false (test m) (Some m) (find test (range_with_len (m + 1) n)) fails) ∙ h) (omega (arith, other)) (omega arith)
    ]
  ]

  -- where none is found, no number passes
  pub least_fails : (b : ℕ) → b < ADDRESSES → find test (range_with_len 0 ADDRESSES) ≡ None → test b ≡ false
  least_fails b l h = fails_from ADDRESSES 0 b h (omega arith) (omega arith)
