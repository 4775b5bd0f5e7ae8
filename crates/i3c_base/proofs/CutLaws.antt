-- Cuts as a mask and an array are the cuts by slot.
use Rattle.std.specs.Prelude.{map}
use Rattle.std.proofs.Common.{Bool, true, false, option_map, ◌≡◌, ◌≢◌, ℕ, zero, suc, ◌+◌, ◌*◌, ◌/◌, ◌%◌, ◌<◌, ◌≤◌, ◌^◌, List, [], ◌∷◌, length, get_or, replicate, set, Option, Some, None, ◌==◌, inl, inr, if◌then◌else◌, sym, refl, ap, subst, ◌∙◌, arith, zero-add}
use Rattle.std.proofs.lemmas.Bool.{cond-true, cond-false, eq-eqb, ne_eqb, cases_eq, cases_lt}
use Rattle.std.proofs.lemmas.List.{get_or_past}
use Rattle.std.proofs.lemmas.Option.{none-some}
use Rattle.std.proofs.lemmas.Nat.{one_shl, or_lt, pow_pos}
use Rattle.std.proofs.Math.Pow.{pow-lt}
use Rattle.std.proofs.lemmas.Nat.Bits.{shr_and_one, bit_at_set_same, bit_at_set_other, bit_at-lt, bit_at-zero, same_from_bits_below}
use Rattle.std.specs.Int.{bit_at, w64}
use Rattle.std.specs.Int.RustNames.{bit_or}
use lib.Bits.{bit_and}
use Rattle.i3c_base.specs.Places.{masked_from}
use Rattle.i3c_base.specs.Cutting.{IsUncut, cut_of, no_cuts}
use Rattle.i3c_base.specs.declared.range.TheConstants.{SLOTS}
use Rattle.std.proofs.lemmas.Bool.Decides.{eqb_tells}
use Rattle.std.specs.Option.{is_some}

pub length-masked_from : (n mask : ℕ) (xs : List ℕ) → length (masked_from n mask xs) ≡ length xs
length-masked_from n mask [] = refl
length-masked_from n mask (x ∷ xs) = ap suc (length-masked_from (suc n) mask xs)

masked_from_at : (n mask : ℕ) (xs : List ℕ) (k : ℕ) → k < length xs → get_or (masked_from n mask xs) k None ≡ (if bit_at mask (k + n) == 1 then Some (get_or xs k 0) else None)
masked_from_at n mask [] k l = absurd (omega arith)
masked_from_at n mask (x ∷ xs) zero l = ap (λ (m : ℕ). if bit_at mask m == 1 then Some x else None) (sym (zero-add n))
masked_from_at n mask (x ∷ xs) (suc k) l =
    let same : k + suc n ≡ suc k + n = omega arith in
    masked_from_at (suc n) mask xs k (omega arith) ∙ ap (λ (m : ℕ). if bit_at mask m == 1 then Some (get_or xs k 0) else None) same

-- the place of a slot whose bit is set, and of one whose bit isn't
pub masked_in : (mask : ℕ) (xs : List ℕ) (k : ℕ) → k < length xs → bit_at mask k ≡ 1 → get_or (masked_from 0 mask xs) k None ≡ Some (get_or xs k 0)
masked_in mask xs k l e =
    let same : k + 0 ≡ k = omega arith in
    masked_from_at 0 mask xs k l ∙ cond-true (bit_at mask (k + 0) == 1) (Some (get_or xs k 0)) None (eq-eqb _ _ (ap (bit_at mask) same ∙ e))

pub masked_out : (mask : ℕ) (xs : List ℕ) (k : ℕ) → k < length xs → bit_at mask k ≢ 1 → get_or (masked_from 0 mask xs) k None ≡ None
masked_out mask xs k l n =
    let same : k + 0 ≡ k = omega arith in
    masked_from_at 0 mask xs k l ∙ cond-false (bit_at mask (k + 0) == 1) (Some (get_or xs k 0)) None (ne_eqb _ _ (λ e. n (ap (bit_at mask) (sym same) ∙ e)))

-- masks that agree from a place on
masked_from_same : (n mask other : ℕ) (xs : List ℕ) → ((i : ℕ) → n ≤ i → bit_at other i ≡ bit_at mask i) → masked_from n other xs ≡ masked_from n mask xs
masked_from_same n mask other [] h = refl
masked_from_same n mask other (x ∷ xs) h =
    ap (λ (b : ℕ). (if b == 1 then Some x else None) ∷ masked_from (suc n) other xs) (h n (omega arith))
    ∙ ap (λ ys. (if bit_at mask n == 1 then Some x else None) ∷ ys) (masked_from_same (suc n) mask other xs (λ i l. h i (omega arith)))

masked_from_set : (n mask other : ℕ) (xs : List ℕ) (k v : ℕ) → k < length xs → ((i : ℕ) → i ≢ k + n → bit_at other i ≡ bit_at mask i) → bit_at other (k + n) ≡ 1
    → masked_from n other (set xs k v) ≡ set (masked_from n mask xs) k (Some v)
masked_from_set n mask other [] k v l h e = absurd (omega arith)
masked_from_set n mask other (x ∷ xs) zero v l h e =
    let here : bit_at other n ≡ 1 = ap (bit_at other) (sym (zero-add n)) ∙ e in
    ap (λ (b : Option ℕ). b ∷ masked_from (suc n) other xs) (cond-true (bit_at other n == 1) (Some v) None (eq-eqb _ _ here))
    ∙ ap (λ ys. Some v ∷ ys) (masked_from_same (suc n) mask other xs (λ i m. h i (λ q. absurd (omega arith))))
masked_from_set n mask other (x ∷ xs) (suc k) v l h e =
    let same : k + suc n ≡ suc k + n = omega arith in
    ap (λ (b : ℕ). (if b == 1 then Some x else None) ∷ masked_from (suc n) other (set xs k v)) (h n (λ q. absurd (omega arith)))
    ∙ ap (λ ys. (if bit_at mask n == 1 then Some x else None) ∷ ys)
    (masked_from_set (suc n) mask other xs k v (omega arith) (λ i m. h i (λ q. m (q ∙ sym same))) (ap (bit_at other) same ∙ e))

-- a bit set more, with its number
pub masked_set : (mask other : ℕ) (xs : List ℕ) (k v : ℕ) → k < length xs → ((i : ℕ) → i ≢ k → bit_at other i ≡ bit_at mask i) → bit_at other k ≡ 1
    → masked_from 0 other (set xs k v) ≡ set (masked_from 0 mask xs) k (Some v)
masked_set mask other xs k v l h e =
    let same : k + 0 ≡ k = omega arith in
    masked_from_set 0 mask other xs k v l (λ i m. h i (λ q. m (q ∙ sym same))) (ap (bit_at other) same ∙ e)

-- an empty mask names no slot, and a mask that names no slot is empty
pub uncut_zero : (xs : List ℕ) → IsUncut (masked_from 0 0 xs)
uncut_zero xs s = elim (cases_lt s (length xs)) [
  | inl l ↦ masked_out 0 xs s l (λ e. absurd (omega (arith, bit_at-zero s, e)))
  | inr l ↦ get_or_past (masked_from 0 0 xs) s None (subst (λ m. m ≤ s) (sym (length-masked_from 0 0 xs)) l)
]

pub zero_uncut : (n mask : ℕ) (xs : List ℕ) → mask < 2 ^ n → n ≤ length xs → IsUncut (masked_from 0 mask xs) → mask ≡ 0
zero_uncut n mask xs small long h = same_from_bits_below n mask 0 small (pow_pos n) (λ i l.
    bit_is_zero (bit_at mask i) (bit_at-lt mask i) (λ e. none-some (get_or xs i 0) (sym (h i) ∙ masked_in mask xs i (omega arith) e)) ∙ sym (bit_at-zero i))
  where
    bit_is_zero : (b : ℕ) → b < 2 → (b ≡ 1 → ⊥) → b ≡ 0
    bit_is_zero b l n = elim (cases_eq b 1) [ inl e ↦ absurd (n e) | inr m ↦ omega arith ]

-- an empty mask, place by place
pub zero_none : (xs : List ℕ) → length xs ≡ SLOTS → masked_from 0 0 xs ≡ no_cuts
unfolding no_cuts
zero_none xs long = all_none 0 xs ∙ ap (λ n. replicate n None) long
  where
    all_none : (n : ℕ) (ys : List ℕ) → masked_from n 0 ys ≡ replicate (length ys) None
    all_none n [] = refl
    all_none n (y ∷ ys) = ap (λ (b : Option ℕ). b ∷ masked_from (suc n) 0 ys) (cond-false (bit_at 0 n == 1) (Some y) None (ap (λ b. b == 1) (bit_at-zero n))) ∙ ap (λ zs. None ∷ zs) (all_none (suc n) ys)

pub none_uncut : IsUncut no_cuts
none_uncut = subst IsUncut (zero_none (replicate SLOTS 0) refl) (uncut_zero (replicate SLOTS 0))

-- what is read of a slot
pub read_in : (mask : ℕ) (xs : List ℕ) (now : List (Option ℕ)) (i s : ℕ) → masked_from 0 mask xs ≡ now → i ≡ s → i < length xs → bit_and (mask / 2 ^ i) 1 ≡ 1 → Some (get_or xs i 0) ≡ cut_of now s
read_in mask xs now i s v e l b =
    sym (masked_in mask xs i l (sym (shr_and_one mask i) ∙ b)) ∙ (ap (λ k. get_or (masked_from 0 mask xs) k None) e ∙ ap (λ ys. get_or ys s None) v)

pub read_out : (mask : ℕ) (xs : List ℕ) (now : List (Option ℕ)) (i s : ℕ) → masked_from 0 mask xs ≡ now → i ≡ s → i < length xs → bit_and (mask / 2 ^ i) 1 ≢ 1 → ◌≡◌ {A = Option ℕ} None (cut_of now s)
read_out mask xs now i s v e l b =
    sym (masked_out mask xs i l (λ q. b (shr_and_one mask i ∙ q))) ∙ (ap (λ k. get_or (masked_from 0 mask xs) k None) e ∙ ap (λ ys. get_or ys s None) v)

-- a slot written
pub written_set : (mask : ℕ) (xs : List ℕ) (now : List (Option ℕ)) (i s v w : ℕ) → masked_from 0 mask xs ≡ now → i ≡ s → i < length xs → i < 64 → v ≡ w
    → masked_from 0 (bit_or mask (1 * 2 ^ i % 2 ^ 64)) (set xs i v) ≡ set now s (Some w)
written_set mask xs now i s v w is e l small same =
    masked_set mask (bit_or mask (1 * 2 ^ i % 2 ^ 64)) xs i v l (bit_at_set_other w64 mask i small) (bit_at_set_same w64 mask i small)
    ∙ ((λ t. set (is t) (e t) (Some (same t))))

-- a mask of n bits with one of them set has n bits
pub set_fits : (n mask i : ℕ) → mask < 2 ^ n → i < n → n ≤ 64 → bit_or mask (1 * 2 ^ i % 2 ^ 64) < 2 ^ n
set_fits n mask i small l most = or_lt n mask (1 * 2 ^ i % 2 ^ 64) small (subst (λ bit. bit < 2 ^ n) (sym (one_shl i 64 (omega (arith, l, most)))) (pow-lt l))

-- masked numbers that were changed
pub masked_from-map : (f : ℕ → ℕ) (n mask : ℕ) (xs : List ℕ) → masked_from n mask (map f xs) ≡ map (option_map f) (masked_from n mask xs)
masked_from-map f n mask [] = refl
masked_from-map f n mask (x ∷ xs) =
    ap (λ place. place ∷ masked_from (suc n) mask (map f xs)) (go (bit_at mask n == 1)) ∙ ap (λ ys. option_map f (if bit_at mask n == 1 then Some x else None) ∷ ys) (masked_from-map f (suc n) mask xs)
  where
    go : (b : Bool) → (if b then Some (f x) else None) ≡ option_map f (if b then Some x else None)
    go true = refl
    go false = refl

-- a mask names the slots that are cut
pub names_cut : (mask : ℕ) (xs : List ℕ) (now : List (Option ℕ)) (s : ℕ) → masked_from 0 mask xs ≡ now → s < length xs → (bit_at mask s == 1) ≡ is_some (cut_of now s)
names_cut mask xs now s v l =
    let read : get_or (masked_from 0 mask xs) s None ≡ cut_of now s = ap (λ ys. get_or ys s None) v in
    elim (eqb_tells (bit_at mask s) 1) [
      | inl (e, is) ↦ e ∙ ap is_some (sym (masked_in mask xs s l is) ∙ read)
      | inr (e, isnt) ↦ e ∙ ap is_some (sym (masked_out mask xs s l isnt) ∙ read)
    ]
