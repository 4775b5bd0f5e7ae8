-- Which elements of a list pass two tests.
use Rattle.std.proofs.Common.{◌≡◌, ℕ, Bool, true, false, ◌&&◌, cond, List, [], ◌∷◌, map, inl, inr, refl, sym, subst}
use Rattle.std.specs.List.{AllByRecursion, Contains, filter, list_all, list_any}
use Rattle.std.proofs.lemmas.Bool.{both_ways, cases_Bool, or_cases, or_parts, true≢false}
use Rattle.std.proofs.lemmas.List.Elements.{All-contains, All-from_recursion, Contains-append_left, Contains-append_right, Contains-push}

-- if a first of the keys that pass q passes p, one of those keys has it
pub some_pick : (p : ℕ → Bool) (q : ℕ × ℕ → Bool) (keys : List (ℕ × ℕ)) → list_any p (map (λ e. e.0) (filter q keys)) ≡ true → (e : ℕ × ℕ) × Contains keys e × (q e ≡ true) × (p e.0 ≡ true)
some_pick p q [] h = absurd (true≢false (sym h))
some_pick p q (k ∷ keys) h =
    elim (q k) as (λ b. q k ≡ b → list_any p (map (λ e. e.0) (cond b (k ∷ filter q keys) (filter q keys))) ≡ true → (e : ℕ × ℕ) × Contains (k ∷ keys) e × (q e ≡ true) × (p e.0 ≡ true)) [
      | true ↦ λ is any. elim (or_cases (p k.0) (list_any p (map (λ e. e.0) (filter q keys))) any) [
        | inl here ↦ (k, Contains-append_left (k ∷ []) keys k (Contains-push [] k), is, here)
        | inr there ↦ let e = some_pick p q keys there in (e.0, Contains-append_right (k ∷ []) keys e.0 e.1, e.2, e.3)
      ]
      | false ↦ λ is any. let e = some_pick p q keys any in (e.0, Contains-append_right (k ∷ []) keys e.0 e.1, e.2, e.3)
    ] refl h

-- no first of the keys passes
none_pick : (p : ℕ → Bool) (q : ℕ × ℕ → Bool) (keys : List (ℕ × ℕ)) → list_any p (map (λ e. e.0) (filter q keys)) ≡ false → AllByRecursion (λ e. q e ≡ true → p e.0 ≡ false) keys
none_pick p q [] h = tt
none_pick p q (k ∷ keys) h =
    elim (q k) as (λ b. q k ≡ b → list_any p (map (λ e. e.0) (cond b (k ∷ filter q keys) (filter q keys))) ≡ false → (q k ≡ true → p k.0 ≡ false) × AllByRecursion (λ e. q e ≡ true → p e.0 ≡ false) keys) [
      | true ↦ λ is none. let parts = or_parts (p k.0) (list_any p (map (λ e. e.0) (filter q keys))) none in ((λ t. parts.0), none_pick p q keys parts.1)
      | false ↦ λ is none. ((λ t. absurd (both_ways (q k) is t)), none_pick p q keys none)
    ] refl h

pub unpicked : (p : ℕ → Bool) (q : ℕ × ℕ → Bool) (keys : List (ℕ × ℕ)) (e : ℕ × ℕ) → list_any p (map (λ k. k.0) (filter q keys)) ≡ false → Contains keys e → q e ≡ true → p e.0 ≡ false
unpicked p q keys e h has = All-contains (λ (k : ℕ × ℕ). q k ≡ true → p k.0 ≡ false) keys e (All-from_recursion (λ (k : ℕ × ℕ). q k ≡ true → p k.0 ≡ false) keys (none_pick p q keys h)) has

-- not all keys pass
pub some_fails : (p : ℕ × ℕ → Bool) (keys : List (ℕ × ℕ)) → list_all p keys ≡ false → (e : ℕ × ℕ) × Contains keys e × (p e ≡ false)
some_fails p [] h = absurd (true≢false h)
some_fails p (k ∷ keys) h = elim (cases_Bool (p k)) [
  | inl t ↦
      let e = some_fails p keys (rest t) in (e.0, Contains-append_right (k ∷ []) keys e.0 e.1, e.2)
  | inr f ↦ (k, Contains-append_left (k ∷ []) keys k (Contains-push [] k), f)
]
  where
    rest : p k ≡ true → list_all p keys ≡ false
    rest t = subst (λ b. (b && list_all p keys) ≡ false) t h
