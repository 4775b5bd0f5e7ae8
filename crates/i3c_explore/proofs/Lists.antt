-- Elements of lists by their index.
use Rattle.std.proofs.Common.{◌≡◌, ◌≢◌, ◌⊎◌, ◌∙◌, ◌<◌, ◌≤◌, ℕ, suc, zero, List, [], ◌∷◌, ◌++◌, Some, ap, arith, get_or, inl, inr, length, refl, subst, sym}
use Rattle.std.specs.List.{Contains, slice_get}
use Rattle.std.proofs.Math.ListN.{set}
use Rattle.std.proofs.lemmas.Bool.Decides.{eqb_tells}
use Rattle.std.proofs.lemmas.Option.{get_or_from_slice_get, same_Some, slice_get_cases, slice_get_read, slice_get_within}

pub get_contains : {A : Type 0} (xs : List A) (k : ℕ) (x : A) → slice_get xs k ≡ Some x → Contains xs x
get_contains xs k x found = (k, slice_get_within xs k x found, get_or_from_slice_get xs k x x found)

pub contains_get : {A : Type 0} (xs : List A) (x : A) → Contains xs x → (k : ℕ) × (slice_get xs k ≡ Some x)
contains_get xs x (k, lt, is) = (k, slice_get_read xs (length xs) k x refl lt (sym is))

-- below a list's length there is an element
pub get_below : {A : Type 0} (xs : List A) (k : ℕ) → k < length xs → (x : A) × (slice_get xs k ≡ Some x)
get_below xs k lt = elim (slice_get_cases xs k).1 [
  | inl (x, _, is, _) ↦ (x, is)
  | inr (past, _) ↦ absurd (omega arith)
]

pub get_set_same : {A : Type 0} (xs : List A) (k : ℕ) (y : A) → k < length xs → slice_get (set xs k y) k ≡ Some y
get_set_same [] k y lt = absurd (omega arith)
get_set_same (x ∷ xs) zero y lt = refl
get_set_same (x ∷ xs) (suc k) y lt = get_set_same xs k y (omega arith)

pub get_set_other : {A : Type 0} (xs : List A) (i k : ℕ) (y : A) → k ≢ i → slice_get (set xs i y) k ≡ slice_get xs k
get_set_other [] i k y apart = refl
get_set_other (x ∷ xs) zero zero y apart = absurd (apart refl)
get_set_other (x ∷ xs) zero (suc k) y apart = refl
get_set_other (x ∷ xs) (suc i) zero y apart = refl
get_set_other (x ∷ xs) (suc i) (suc k) y apart = get_set_other xs i k y (λ e. apart (ap suc e))

pub get_push : {A : Type 0} (xs : List A) (y : A) → slice_get (xs ++ y ∷ []) (length xs) ≡ Some y
get_push [] y = refl
get_push (x ∷ xs) y = get_push xs y

pub get_before_push : {A : Type 0} (xs : List A) (y x : A) (k : ℕ) → slice_get xs k ≡ Some x → slice_get (xs ++ y ∷ []) k ≡ Some x
get_before_push [] y x k found = cc
get_before_push (z ∷ xs) y x zero found = found
get_before_push (z ∷ xs) y x (suc k) found = get_before_push xs y x k found

pub push_cases : {A : Type 0} (xs : List A) (y x : A) (k : ℕ) → slice_get (xs ++ y ∷ []) k ≡ Some x → (slice_get xs k ≡ Some x) ⊎ ((k ≡ length xs) × (x ≡ y))
push_cases [] y x zero found = inr (refl, sym (same_Some y x found))
push_cases [] y x (suc k) found = cc
push_cases (z ∷ xs) y x zero found = inl found
push_cases (z ∷ xs) y x (suc k) found = elim (push_cases xs y x k found) [
  | inl old ↦ inl old
  | inr (at, same) ↦ inr (ap suc at, same)
]

pub set_cases : {A : Type 0} (xs : List A) (i : ℕ) (y x : A) (k : ℕ) → i < length xs → slice_get (set xs i y) k ≡ Some x → ((slice_get xs k ≡ Some x) × (k ≢ i)) ⊎ ((k ≡ i) × (x ≡ y))
set_cases xs i y x k lt found = elim (eqb_tells k i) [
  | inl (_, same) ↦ inr (same, same_Some x y (sym found ∙ subst (λ (j : ℕ). slice_get (set xs i y) j ≡ Some y) (sym same) (get_set_same xs i y lt)))
  | inr (_, other) ↦ inl (sym (get_set_other xs i k y other) ∙ found, other)
]

-- a loop that writes each element, one step on
pub written_more : {A : Type 0} (R : A → A → Type 0) (first xs : List A) (i : ℕ) (x y : A) → i < length xs → x ≡ get_or xs i x → R x y
    → ((k : ℕ) → k < i → (new : A) → slice_get xs k ≡ Some new → (old : A) × (slice_get first k ≡ Some old) × R old new)
    → ((k : ℕ) → i ≤ k → slice_get xs k ≡ slice_get first k)
    → (k : ℕ) → k < suc i → (new : A) → slice_get (set xs i y) k ≡ Some new → (old : A) × (slice_get first k ≡ Some old) × R old new
written_more {A} R first xs i x y lt is related before left k below new found = elim (set_cases xs i y new k lt found) [
  | inl (old, other) ↦ before k (omega arith) new old
  | inr (same, at) ↦ (
    x,
    subst (λ (j : ℕ). slice_get first j ≡ Some x) (sym same) (sym (left i (omega arith)) ∙ slice_get_read xs (length xs) i x refl lt is),
    subst (λ (z : A). R x z) (sym at) related,
  )
]

pub left_more : {A : Type 0} (first xs : List A) (i : ℕ) (y : A) → ((k : ℕ) → i ≤ k → slice_get xs k ≡ slice_get first k)
    → (k : ℕ) → suc i ≤ k → slice_get (set xs i y) k ≡ slice_get first k
left_more first xs i y left k above = get_set_other xs i k y (λ e. omega arith) ∙ left k (omega arith)
