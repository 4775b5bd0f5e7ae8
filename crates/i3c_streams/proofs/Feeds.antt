-- The first place of a byte.
use Rattle.std.proofs.Common.{◌≡◌, ℕ, zero, suc, ◌+◌, ◌-◌, Bool, List, [], ◌∷◌, length, Option, Some, None, arith, subst, sym, ◌∙◌, ⊎_elim, slice_index}
use Rattle.std.proofs.lemmas.Bool.{cases_Bool, cond-true, cond-false, false≢true}
use Rattle.memchr.specs.Find.{IsFirstByte, Nowhere, NoneBefore, Passes, TakesFirst, places, places_from}
use Rattle.memchr.proofs.lemmas.FindLemmas.{Nowhere-more, Nowhere-then}

module _ (test : ℕ → Bool) (hay : List ℕ) where
  -- a place that doesn't pass, and none behind it
  none_from : (i j : ℕ) → ¬ Passes test hay i → Nowhere (Passes test hay) (i + 1) j → Nowhere (Passes test hay) i j
  none_from i j here behind = Nowhere-then (Nowhere-more (λ k low high. absurd (omega (arith, low, high))) here) behind

  leads : (i n k : ℕ) (rest : List ℕ) → places_from test hay i n ≡ k ∷ rest → NoneBefore (Passes test hay) i (i + n) k × Passes test hay k
  unfolding places_from
  leads i zero k rest e = absurd cc
  leads i (suc n) k rest e =
      ⊎_elim
      (λ yes.
      let same : i ∷ places_from test hay (i + 1) n ≡ k ∷ rest = sym (cond-true _ _ _ yes) ∙ e in
      let at : i ≡ k = cc in
      subst (λ m. NoneBefore (Passes test hay) i (i + suc n) m × Passes test hay m) at
      (record { low = omega arith; high = omega arith; before = λ m low high. absurd (omega (arith, low, high)) }, yes))
      (λ no.
      let later = leads (i + 1) n k rest (sym (cond-false _ _ _ no) ∙ e) in
      (record { low = omega (arith, later.0.low); high = omega (arith, later.0.high); before = none_from i k (λ yes. absurd (false≢true (sym no ∙ yes))) later.0.before }, later.1))
      (cases_Bool (test (slice_index hay i)))

  none_passes : (i n : ℕ) → places_from test hay i n ≡ [] → Nowhere (Passes test hay) i (i + n)
  unfolding places_from
  none_passes i zero e = λ k low high. absurd (omega (arith, low, high))
  none_passes i (suc n) e =
      let end : i + 1 + n ≡ i + suc n = omega arith in
      ⊎_elim
      (λ yes. let same : i ∷ places_from test hay (i + 1) n ≡ [] = sym (cond-true _ _ _ yes) ∙ e in absurd cc)
      (λ no. none_from i (i + suc n) (λ yes. absurd (false≢true (sym no ∙ yes)))
      (subst (λ j. Nowhere (Passes test hay) (i + 1) j) end (none_passes (i + 1) n (sym (cond-false _ _ _ no) ∙ e))))
      (cases_Bool (test (slice_index hay i)))

  -- the first that an iterator gives is the first that there is
  pub is_first : (all left : List ℕ) (first : Option ℕ) → all ≡ places test hay → TakesFirst all first left → IsFirstByte test hay first
  is_first all left None is gives =
      let end : 0 + (length hay - 0) ≡ length hay = omega arith in
      subst (λ j. Nowhere (Passes test hay) 0 j) end (none_passes 0 (length hay - 0) (sym is ∙ gives.0))
  is_first all left (Some k) is gives =
      let found = leads 0 (length hay - 0) k left (sym is ∙ gives) in
      (record { low = found.0.low; high = omega (arith, found.0.high); before = found.0.before }, found.1)
