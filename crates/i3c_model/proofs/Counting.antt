-- How many entries a map has, counted at its places.
use Rattle.std.proofs.Common.{◌≡◌, ◌≢◌, ℕ, zero, suc, ◌+◌, ◌≤◌, ◌<◌, cond, get_or, List, [], ◌∷◌, map, length, count_by, Option, Some, None, is_some, zero-add, inl, inr, sym, refl, ap, ◌∙◌, subst, arith, nat_cmp}
use Rattle.std.specs.Prelude.{⊤}
use Rattle.std.specs.Cmp.{unsigned_tied}
use Rattle.std.specs.List.{range_with_len}
use Rattle.std.specs.List.Sorted.{IsStrictlySortedBy}
use Rattle.std.specs.Map.{keys_of, lookup}
use Rattle.std.specs.Option.{IsSome}
use Rattle.std.specs.BTreeMap.{BTreeMap, IsOrdered, is_at}
use Rattle.std.proofs.lemmas.Bool.{cases_eq, eq-eqb}
use Rattle.std.proofs.lemmas.Cmp.{nat_cmp_total}
use Rattle.std.proofs.lemmas.List.Sums.{count_by-le-length}
use Rattle.std.proofs.lemmas.Map.Keys.{below_from_sorted, sorted_tail}
use Rattle.std.proofs.lemmas.Map.Lookups.{exact_unsigned}
use Rattle.std.proofs.lemmas.Map.Views.{btree_map_get_iff}
use Rattle.i3c_model.specs.Views.{IsKeyedBelow, places_of}
use Rattle.i3c_model.proofs.PlaceLaws.{apart, length-places}
use Rattle.i3c_model.proofs.Starts.{count_cons}

-- keys that ascend from a
abbrev IsAscending : {A : Type 0} → ℕ → List (ℕ × A) → Type 0
IsAscending a [] = ⊤
IsAscending a (e ∷ es) = (a ≤ e.0) × IsAscending (suc e.0) es

-- keys below n
abbrev AreBelow : {A : Type 0} → ℕ → List (ℕ × A) → Type 0
AreBelow n [] = ⊤
AreBelow n (e ∷ es) = (e.0 < n) × AreBelow n es

module _ {A : Type 0} where
  ascending_after : (e : ℕ × A) (es : List (ℕ × A)) → IsStrictlySortedBy nat_cmp (keys_of (e ∷ es)) → IsAscending (suc e.0) es
  ascending_after e [] s = tt
  ascending_after e (x ∷ es) s = (below_from_sorted (keys_of (e ∷ x ∷ es)) 0 1 0 s (omega arith) (omega arith), ascending_after x es (sorted_tail nat_cmp e.0 (keys_of (x ∷ es)) s))

  ascending : (es : List (ℕ × A)) → IsStrictlySortedBy nat_cmp (keys_of es) → IsAscending 0 es
  ascending [] s = tt
  ascending (e ∷ es) s = (omega arith, ascending_after e es s)

  below_all : (n : ℕ) (es : List (ℕ × A)) → ((j : ℕ) (e : ℕ × A) → j < length es → get_or es j e ≡ e → e.0 < n) → AreBelow n es
  below_all n [] h = tt
  below_all n (e ∷ es) h = (h 0 e (omega arith) refl, below_all n es (λ j x l at. h (suc j) x (omega arith) at))

  -- a look-up passes an entry of another key
  passed : (k : ℕ) (e : ℕ × A) (es : List (ℕ × A)) → k ≢ e.0 → lookup (is_at (nat_cmp k)) (e ∷ es) ≡ lookup (is_at (nat_cmp k)) es
  passed k e es ne = ap (λ b. cond b (Some e.1) (lookup (is_at (nat_cmp k)) es)) (apart k e.0 ne)

  found : (k : ℕ) (e : ℕ × A) (es : List (ℕ × A)) → k ≡ e.0 → lookup (is_at (nat_cmp k)) (e ∷ es) ≡ Some e.1
  found k e es same = ap (λ b. cond b (Some e.1) (lookup (is_at (nat_cmp k)) es)) (unsigned_tied k e.0 ∙ eq-eqb k e.0 same)

  none_below : (k : ℕ) (es : List (ℕ × A)) → IsAscending (suc k) es → lookup (is_at (nat_cmp k)) es ≡ None
  none_below k [] up = refl
  none_below k (e ∷ es) up = passed k e es (λ same. let l = up.0 in omega (arith, same)) ∙ none_below k es (later es up.1)
    where
      later : (rest : List (ℕ × A)) → IsAscending (suc e.0) rest → IsAscending (suc k) rest
      later [] u = tt
      later (x ∷ rest) u = ((let l = up.0 in let m = u.0 in omega arith), u.1)

  count_one : (g : ℕ → Option A) (a n : ℕ) (o : Option A) → g a ≡ o → count_by is_some (map g (range_with_len a (suc n))) ≡ cond (is_some o) 1 0 + count_by is_some (map g (range_with_len (a + 1) n))
  count_one g a n o e = count_cons is_some (g a) (map g (range_with_len (a + 1) n)) ∙ ap (λ x. cond (is_some x) 1 0 + count_by is_some (map g (range_with_len (a + 1) n))) e

  -- as many places are taken as there are entries
  count_entries : (g : ℕ → Option A) (es : List (ℕ × A)) (a n : ℕ) → IsAscending a es → AreBelow (a + n) es → ((k : ℕ) → a ≤ k → g k ≡ lookup (is_at (nat_cmp k)) es) → count_by is_some (map g (range_with_len a n)) ≡ length es
  count_entries g [] a zero up below is = refl
  count_entries g [] a (suc n) up below is = count_one g a n None (is a (omega arith)) ∙ (zero-add _ ∙ count_entries g [] (a + 1) n tt tt (λ k l. is k (omega arith)))
  count_entries g (e ∷ es) a zero up below is = let l = up.0 in let m = below.0 in absurd (omega arith)
  count_entries g (e ∷ es) a (suc n) up below is = elim (cases_eq a e.0) [
    | inl same ↦
        let rest = count_entries g es (a + 1) n (subst (λ k. IsAscending k es) (let s : suc e.0 ≡ a + 1 = omega (arith, same) in s) up.1) (subst (λ k. AreBelow k es) (let s : a + suc n ≡ a + 1 + n = omega arith in s) below.1)
        (λ k l. is k (omega arith) ∙ passed k e es (λ other. omega (arith, same, other, l))) in
        let first = count_one g a n (Some e.1) (is a (omega arith) ∙ found a e es same) in
        omega (arith, first, rest)
    | inr other ↦
        let low : a < e.0 = let l = up.0 in omega (arith, other, l) in
        let rest = count_entries g (e ∷ es) (a + 1) n ((omega (arith, low)), up.1) (subst (λ k. AreBelow k (e ∷ es)) (let s : a + suc n ≡ a + 1 + n = omega arith in s) below) (λ k l. is k (omega arith)) in
        let first = count_one g a n None (is a (omega arith) ∙ none_below a (e ∷ es) (omega (arith, low), up.1)) in
        omega (arith, first, rest)
  ]

  pub places_count : (n : ℕ) (m : BTreeMap ℕ A) → IsOrdered nat_cmp m → IsKeyedBelow n m → count_by is_some (places_of n m) ≡ length m.entries
  unfolding places_of
  places_count n m ordered below =
      count_entries (λ k. lookup (is_at (nat_cmp k)) m.entries) m.entries 0 n (ascending m.entries ordered)
      (subst (λ k. AreBelow k m.entries) (sym (zero-add n)) (below_all n m.entries (λ j e l at. below e.0 (subst IsSome (sym ((btree_map_get_iff nat_cmp_total exact_unsigned m ordered e.0 e.1).1 (j, l, at))) refl)))) (λ k l. refl)

  pub places_few : (n : ℕ) (m : BTreeMap ℕ A) → IsOrdered nat_cmp m → IsKeyedBelow n m → length m.entries ≤ n
  places_few n m ordered below = let most = count_by-le-length is_some (places_of n m) in let same = places_count n m ordered below in let long = length-places n m in omega (arith, most, same, long)
