-- Sets of places as masks: their bits, and what the operations on masks make of them.
use Rattle.std.proofs.Common.{◌≡◌, ◌≢◌, ℕ, zero, suc, ◌+◌, ◌-◌, ◌*◌, ◌/◌, ◌%◌, ◌^◌, ◌<◌, ◌≤◌, ◌==◌, min, max, Bool, true, false, cond, not, ◌&&◌, List, [], ◌∷◌, ◌++◌, length, map, get_or, take, refl, ap, sym, subst, ◌∙◌, arith, inl, inr, lit<}
use Rattle.std.proofs.lemmas.Bool.{cases_lt, cases_eq, cases_Bool, cond-true, cond-false, and_parts}
use Rattle.std.proofs.lemmas.Bool.Decides.{nat_tests}
use Rattle.std.proofs.lemmas.List.{get_or_past, length-map, length-take-le, take_more}
use Rattle.std.proofs.lemmas.Nat.Bits.{bit_at_lowest, bit_at-suc, bit_at-zero, bit_at_and, bit_at_or, bit_at_not, bit_at-pow_same, bit_at-pow_other, bit_at-lt, same_from_bits}
use Rattle.std.proofs.Math.Nat.{pow-suc, pow-le-pow_right}
use Rattle.std.specs.Int.{Width, bit_at, bit_not}
use Rattle.std.specs.Int.RustNames.{bit_or}
use Rattle.std.specs.List.{AllByRecursion, filter, list_all}
use lib.Bits.{bit_and}
use mir.Val.{bits}
use Rattle.i3c_wires.specs.Masks.{mask_of}

-- whether the element at a place passes
abbrev pub passes : {X : Type 0} → (X → Bool) → List X → ℕ → Bool
passes p xs i = get_or (map p xs) i false

mask_low : (b : Bool) (m : ℕ) → (cond b 1 0 + 2 * m) % 2 ≡ cond b 1 0
mask_low true m = omega arith
mask_low false m = omega arith

mask_high : (b : Bool) (m : ℕ) → (cond b 1 0 + 2 * m) / 2 ≡ m
mask_high true m = omega arith
mask_high false m = omega arith

mask_more : (b : Bool) (m n : ℕ) → m < n → cond b 1 0 + 2 * m < n * 2
mask_more true m n l = omega arith
mask_more false m n l = omega arith

-- the bits of one mask that are not in another
bit_but : (a b : Bool) → min (cond a 1 0) (1 - cond b 1 0) ≡ cond (a && not b) 1 0
bit_but true true = refl
bit_but true false = refl
bit_but false true = refl
bit_but false false = refl

bit_none : (b : Bool) (n : ℕ) → min (cond false 1 0) n ≡ cond (false && b) 1 0
bit_none b n = omega arith

mask_zero : (m : ℕ) → (0 + 2 * m == 0) ≡ (m == 0)
mask_zero m = grind (arith, nat_tests)

mask_one : (m : ℕ) → (1 + 2 * m == 0) ≡ false
mask_one m = grind (arith, nat_tests)

all_more : (b r : Bool) (m : ℕ) → (m == 0) ≡ r → (cond (not b) 1 0 + 2 * m == 0) ≡ (b && r)
all_more true r m h = mask_zero m ∙ h
all_more false r m h = mask_one m

module _ {X : Type 0} where
  -- the bit of a place
  pub mask_at : (p : X → Bool) (xs : List X) (i : ℕ) → bit_at (mask_of p xs) i ≡ cond (passes p xs i) 1 0
  mask_at p [] i = bit_at-zero i
  mask_at p (x ∷ xs) zero = bit_at_lowest (cond (p x) 1 0 + 2 * mask_of p xs) ∙ mask_low (p x) (mask_of p xs)
  mask_at p (x ∷ xs) (suc i) = bit_at-suc (cond (p x) 1 0 + 2 * mask_of p xs) i ∙ (ap (λ n. bit_at n i) (mask_high (p x) (mask_of p xs)) ∙ mask_at p xs i)

  mask_small : (p : X → Bool) (xs : List X) → mask_of p xs < 2 ^ length xs
  mask_small p [] = lit< tt
  mask_small p (x ∷ xs) = rw pow-suc (mask_more (p x) (mask_of p xs) (2 ^ length xs) (mask_small p xs))

  pub mask_fits : (p : X → Bool) (xs : List X) (n : ℕ) → length xs ≤ n → mask_of p xs < 2 ^ n
  mask_fits p xs n l = omega (arith, mask_small p xs, pow-le-pow_right {n = 2} (lit< tt) l)

  passes_but : (p q : X → Bool) (xs : List X) (i : ℕ) → passes (λ x. p x && not (q x)) xs i ≡ (passes p xs i && not (passes q xs i))
  passes_but p q [] i = refl
  passes_but p q (x ∷ xs) zero = refl
  passes_but p q (x ∷ xs) (suc i) = passes_but p q xs i

  pub passes_past : (p : X → Bool) (xs : List X) (i : ℕ) → length xs ≤ i → passes p xs i ≡ false
  passes_past p xs i l = get_or_past (map p xs) i false (subst (λ n. n ≤ i) (sym (length-map xs p)) l)

  -- the elements of one set that aren't in another
  pub mask_but : (w : Width) (p q : X → Bool) (xs : List X) → length xs ≤ bits w → bit_and (mask_of p xs) (bit_not w (mask_of q xs)) ≡ mask_of (λ x. p x && not (q x)) xs
  mask_but w p q xs l = same_from_bits _ _ (λ i. bit_at_and (mask_of p xs) (bit_not w (mask_of q xs)) i ∙ (each i ∙ sym (mask_at (λ x. p x && not (q x)) xs i ∙ ap (λ b. cond b 1 0) (passes_but p q xs i))))
    where
      within : (i : ℕ) → i < bits w → min (bit_at (mask_of p xs) i) (bit_at (bit_not w (mask_of q xs)) i) ≡ cond (passes p xs i && not (passes q xs i)) 1 0
      within i k = ap (λ n. min n (bit_at (bit_not w (mask_of q xs)) i)) (mask_at p xs i)
          ∙ (ap (λ n. min (cond (passes p xs i) 1 0) n) (bit_at_not w (mask_of q xs) i (mask_fits q xs (bits w) l) k ∙ ap (λ n. 1 - n) (mask_at q xs i)) ∙ bit_but (passes p xs i) (passes q xs i))

      past : (i : ℕ) → length xs ≤ i → min (bit_at (mask_of p xs) i) (bit_at (bit_not w (mask_of q xs)) i) ≡ cond (passes p xs i && not (passes q xs i)) 1 0
      past i k =
          let out : passes p xs i ≡ false = passes_past p xs i k in
          rw (mask_at p xs i, out) (bit_none (not (passes q xs i)) (bit_at (bit_not w (mask_of q xs)) i))

      each : (i : ℕ) → min (bit_at (mask_of p xs) i) (bit_at (bit_not w (mask_of q xs)) i) ≡ cond (passes p xs i && not (passes q xs i)) 1 0
      each i = elim (cases_lt i (length xs)) [ inl k ↦ within i (omega arith) | inr k ↦ past i k ]

  -- no place, and all
  pub mask_none : (p : X → Bool) (xs : List X) → ((x : X) → p x ≡ false) → mask_of p xs ≡ 0
  mask_none p [] h = refl
  mask_none p (x ∷ xs) h = rw (h x) (omega (arith, mask_none p xs h))

  pub mask_agree : (p q : X → Bool) (xs : List X) → ((x : X) → p x ≡ q x) → mask_of p xs ≡ mask_of q xs
  mask_agree p q [] h = refl
  mask_agree p q (x ∷ xs) h = (λ t. cond (h x t) 1 0 + 2 * mask_agree p q xs h t)

  pub mask_every : (p : X → Bool) (xs : List X) → AllByRecursion (λ x. p x ≡ true) xs → mask_of p xs + 1 ≡ 2 ^ length xs
  mask_every p [] h = refl
  mask_every p (x ∷ xs) h = rw (h.0, pow-suc) (omega (arith, mask_every p xs h.1))

  -- nobody of one set is missing from another exactly where all of it pass
  pub mask_none_but : (p q : X → Bool) (xs : List X) → (mask_of (λ x. p x && not (q x)) xs == 0) ≡ list_all q (filter p xs)
  mask_none_but p q [] = refl
  mask_none_but p q (x ∷ xs) =
      elim (p x) as (λ a. (cond (a && not (q x)) 1 0 + 2 * mask_of (λ x. p x && not (q x)) xs == 0) ≡ list_all q (cond a (x ∷ filter p xs) (filter p xs))) [
        | true ↦ all_more (q x) (list_all q (filter p xs)) (mask_of (λ x. p x && not (q x)) xs) (mask_none_but p q xs)
        | false ↦ mask_zero (mask_of (λ x. p x && not (q x)) xs) ∙ mask_none_but p q xs
      ]

  -- if all of a set pass a test, the set doesn't change by it
  pub mask_kept : (p q : X → Bool) (xs : List X) → list_all q (filter p xs) ≡ true → mask_of p xs ≡ mask_of (λ x. p x && q x) xs
  mask_kept p q [] h = refl
  mask_kept p q (x ∷ xs) h =
      elim (p x) as (λ a. list_all q (cond a (x ∷ filter p xs) (filter p xs)) ≡ true → cond a 1 0 + 2 * mask_of p xs ≡ cond (a && q x) 1 0 + 2 * mask_of (λ x. p x && q x) xs) [
        | true ↦ λ h. let parts = and_parts (q x) (list_all q (filter p xs)) h in (λ t. cond (sym parts.0 t) 1 0 + 2 * mask_kept p q xs parts.1 t)
        | false ↦ λ h. ap (λ n. 0 + 2 * n) (mask_kept p q xs h)
      ] h

  passes_new : (p : X → Bool) (xs : List X) (x : X) → passes p (xs ++ x ∷ []) (length xs) ≡ p x
  passes_new p [] x = refl
  passes_new p (y ∷ xs) x = passes_new p xs x

  passes_old : (p : X → Bool) (xs : List X) (x : X) (i : ℕ) → i ≢ length xs → passes p (xs ++ x ∷ []) i ≡ passes p xs i
  passes_old p [] x zero n = absurd (n refl)
  passes_old p [] x (suc i) n = refl
  passes_old p (y ∷ xs) x zero n = refl
  passes_old p (y ∷ xs) x (suc i) n = passes_old p xs x i (λ e. n (ap suc e))

  -- one element more, at the end
  pub mask_push : (p : X → Bool) (xs : List X) (x : X) → p x ≡ true → bit_or (mask_of p xs) (2 ^ length xs) ≡ mask_of p (xs ++ x ∷ [])
  mask_push p xs x h = same_from_bits _ _ (λ i. bit_at_or (mask_of p xs) (2 ^ length xs) i ∙ (elim (cases_eq i (length xs)) [ inl e ↦ new i e | inr n ↦ old i n ] ∙ sym (mask_at p (xs ++ x ∷ []) i)))
    where
      new : (i : ℕ) → i ≡ length xs → max (bit_at (mask_of p xs) i) (bit_at (2 ^ length xs) i) ≡ cond (passes p (xs ++ x ∷ []) i) 1 0
      new i e = rw (e, passes_new, h, bit_at-pow_same) (let small : bit_at (mask_of p xs) (length xs) < 2 = bit_at-lt (mask_of p xs) (length xs) in omega arith)

      old : (i : ℕ) → i ≢ length xs → max (bit_at (mask_of p xs) i) (bit_at (2 ^ length xs) i) ≡ cond (passes p (xs ++ x ∷ []) i) 1 0
      old i n = rw (passes_old p xs x i n, bit_at-pow_other (length xs) i n, ← mask_at p xs i) (omega arith)

  pub mask_push_not : (p : X → Bool) (xs : List X) (x : X) → p x ≡ false → mask_of p xs ≡ mask_of p (xs ++ x ∷ [])
  mask_push_not p [] x h = rw h refl
  mask_push_not p (y ∷ xs) x h = ap (λ n. cond (p y) 1 0 + 2 * n) (mask_push_not p xs x h)

  -- one element more of a list: its place is put into the set where it passes
  pub mask_next : (p : X → Bool) (xs : List X) (i : ℕ) (x : X) (had now : ℕ) → i < length xs → x ≡ get_or xs i x → had ≡ mask_of p (take i xs) → now ≡ cond (p x) (bit_or had (2 ^ i)) had → now ≡ mask_of p (take (i + 1) xs)
  mask_next p xs i x had now l at h e =
      let long : length (take i xs) ≡ i = length-take-le i xs (omega arith) in
      let more : take (i + 1) xs ≡ take i xs ++ x ∷ [] = take_more xs i x l ∙ ap (λ y. take i xs ++ y ∷ []) (sym at) in
      elim (cases_Bool (p x)) [
        | inl pass ↦ e ∙ (cond-true (p x) (bit_or had (2 ^ i)) had pass ∙ (ap (λ m. bit_or m (2 ^ i)) h ∙ (ap (λ k. bit_or (mask_of p (take i xs)) (2 ^ k)) (sym long) ∙ (mask_push p (take i xs) x pass ∙ ap (mask_of p) (sym more)))))
        | inr fail ↦ e ∙ (cond-false (p x) (bit_or had (2 ^ i)) had fail ∙ (h ∙ (mask_push_not p (take i xs) x fail ∙ ap (mask_of p) (sym more))))
      ]
