-- A contest goes from turn to turn: between them every contender drives the same bit, and nobody is cut.
use Rattle.std.proofs.Common.{◌≡◌, ◌≢◌, ℕ, zero, suc, ◌+◌, ◌-◌, ◌*◌, ◌/◌, ◌%◌, ◌^◌, ◌<◌, ◌≤◌, ◌==◌, max, Bool, true, false, cond, not, ◌&&◌, List, [], ◌∷◌, length, map, get_or, take, Option, None, Some, slice_get, ◌⊎◌, refl, ap, sym, subst, ◌∙◌, arith, inl, inr, lit<}
use Rattle.std.proofs.lemmas.Bool.{cases_Bool, cases_eq, cases_lt, both_ways, eq-eqb, eqb-true, eqb-false, ne_eqb}
use Rattle.std.proofs.lemmas.Nat.{and_le_l, one_shl, pow-add, pow_pos}
use Rattle.std.proofs.lemmas.Nat.Bits.{bit_at-lt, bit_at-zero, bit_at_above, bit_at-pow_other, bit_at-pow_same, bit_at_clear_other, bit_at_clear_same, bit_at_ones, bit_at_ones_above, bit_at_or, bit_at_set_other, bit_at_set_same, bit_at_xor, ones_shr, same_from_bits}
use Rattle.std.proofs.lemmas.List.{take_all}
use Rattle.std.proofs.lemmas.List.Elements.{All-more, recursion_from_All}
use Rattle.std.proofs.Math.Nat.{div-div-eq-div-mul, div-eq_of_lt, div-eq_of_lt-le, div-one, pow-le-pow_right, pow-suc}
use Rattle.std.specs.Int.{w64, bit_at, bit_not}
use Rattle.std.specs.Int.RustNames.{bit_or, bit_xor}
use Rattle.std.specs.List.{All, AllByRecursion, filter, list_all}
use lib.Bits.{bit_and}
use mir.Val.{bool_byte, bits as bits_of}
use Rattle.i3c_base.specs.Cutting.{CutList, cut_of}
use Rattle.i3c_wires.specs.Contest.{drives_one, holders, is_one}
use Rattle.i3c_wires.specs.Masks.{is_at, mask_of}
use Rattle.i3c_wires.specs.Turns.{IsQuiet}
use Rattle.i3c_wires.proofs.ColumnLaws.{Contested, contested_first, contested_last, contested_one, contested_zero, mask_width, still_driving}
use Rattle.i3c_wires.proofs.Reading.{Reading, drives, drives_is, reading_more, stays, stays_is}

-- ---- lists

module _ {X : Type 0} where
  pub mask_agree_in : (p q : X → Bool) (xs : List X) → AllByRecursion (λ x. p x ≡ q x) xs → mask_of p xs ≡ mask_of q xs
  mask_agree_in p q [] h = refl
  mask_agree_in p q (x ∷ xs) h = (λ t. cond (h.0 t) 1 0 + 2 * mask_agree_in p q xs h.1 t)

  each_in : (P Q : X → Type 0) (xs : List X) → ((x : X) → P x → Q x) → AllByRecursion P xs → AllByRecursion Q xs
  each_in P Q [] f h = tt
  each_in P Q (x ∷ xs) f h = (f x h.0, each_in P Q xs f h.1)

  -- no element passes a test whose mask is empty
  nobody_left : (p : X → Bool) (xs : List X) → mask_of p xs ≡ 0 → filter p xs ≡ []
  nobody_left p [] e = refl
  nobody_left p (x ∷ xs) e =
      elim (p x) as (λ b. cond b 1 0 + 2 * mask_of p xs ≡ 0 → cond b (x ∷ filter p xs) (filter p xs) ≡ []) [
        | true ↦ λ e. absurd (omega (arith, e))
        | false ↦ λ e. nobody_left p xs (omega (arith, e))
      ] e

  fewer : (p q : X → Bool) (xs : List X) → ((x : X) → p x ≡ false → q x ≡ false) → mask_of p xs ≡ 0 → mask_of q xs ≡ 0
  fewer p q [] f e = refl
  fewer p q (x ∷ xs) f e =
      elim (cases_Bool (p x)) [
        | inl pass ↦ absurd (omega (arith, sym (ap (λ b. cond b 1 0 + 2 * mask_of p xs) pass) ∙ e))
        | inr out ↦
            let rest : mask_of p xs ≡ 0 = omega (arith, sym (ap (λ b. cond b 1 0 + 2 * mask_of p xs) out) ∙ e) in
            ap (λ b. cond b 1 0 + 2 * mask_of q xs) (f x out) ∙ omega (arith, fewer p q xs f rest)
      ]

  -- all that are left drive the same, and one is left
  reads_true : (p q : X → Bool) (xs : List X) → AllByRecursion (λ x. q x ≡ true) xs → list_all q (filter p xs) ≡ true
  reads_true p q [] h = refl
  reads_true p q (x ∷ xs) h =
      elim (p x) as (λ b. list_all q (cond b (x ∷ filter p xs) (filter p xs)) ≡ true) [
        | true ↦ ap (λ b. b && list_all q (filter p xs)) h.0 ∙ reads_true p q xs h.1
        | false ↦ reads_true p q xs h.1
      ]

  reads_false : (p q : X → Bool) (xs : List X) → AllByRecursion (λ x. q x ≡ false) xs → mask_of p xs ≢ 0 → list_all q (filter p xs) ≡ false
  reads_false p q [] h some = absurd (some refl)
  reads_false p q (x ∷ xs) h some =
      elim (p x) as (λ b. cond b 1 0 + 2 * mask_of p xs ≢ 0 → list_all q (cond b (x ∷ filter p xs) (filter p xs)) ≡ false) [
        | true ↦ λ some. ap (λ b. b && list_all q (filter p xs)) h.0
        | false ↦ λ some. reads_false p q xs h.1 (λ e. some (omega (arith, e)))
      ] some

  pub reads : (p q : X → Bool) (b : Bool) (xs : List X) → AllByRecursion (λ x. q x ≡ b) xs → mask_of p xs ≢ 0 → b ≡ list_all q (filter p xs)
  reads p q true xs h some = sym (reads_true p q xs h)
  reads p q false xs h some = sym (reads_false p q xs h some)

-- ---- numbers

-- the upper part of a number with one bit more
pub whole : (n left : ℕ) → 2 * (n / 2 ^ suc left) + bool_byte (is_one left n) ≡ n / 2 ^ left
whole n left = rw (pow-suc, ← div-div-eq-div-mul) (joined (n / 2 ^ left))
  where
    joined : (q : ℕ) → 2 * (q / 2) + bool_byte (q % 2 == 1) ≡ q
    joined q = elim (cases_eq (q % 2) 1) [
      | inl one ↦ ap (λ b. 2 * (q / 2) + bool_byte b) (eq-eqb _ _ one) ∙ omega (arith, one)
      | inr not_one ↦ ap (λ b. 2 * (q / 2) + bool_byte b) (ne_eqb _ _ not_one) ∙ omega (arith, not_one)
    ]

pub bit_one : (n i : ℕ) → is_one i n ≡ true → bit_at n i ≡ 1
bit_one n i e = eqb-true _ _ e

pub bit_none : (n i : ℕ) → is_one i n ≡ false → bit_at n i ≡ 0
bit_none n i e = let isnt : bit_at n i ≢ 1 = eqb-false _ _ e in omega (arith, isnt, bit_at-lt n i)

pub one_bit : (n i : ℕ) → bit_at n i ≡ 1 → is_one i n ≡ true
one_bit n i e = eq-eqb _ _ e

pub none_bit : (n i : ℕ) → bit_at n i ≡ 0 → is_one i n ≡ false
none_bit n i e = ne_eqb _ _ (λ one. absurd (omega (arith, e, one)))

same_one : (m n i : ℕ) → bit_at m i ≡ bit_at n i → is_one i m ≡ is_one i n
same_one m n i e = ap (λ b. b == 1) e

-- two numbers with the same upper bits
bit_above : (n k i : ℕ) → bit_at (n / 2 ^ k) i ≡ bit_at n (k + i)
bit_above n k i = ap (λ q. q % 2) (div-div-eq-div-mul n (2 ^ k) (2 ^ i) ∙ ap (λ m. n / m) (sym (pow-add 2 k i)))

pub same_above : (m n k : ℕ) → ((i : ℕ) → k ≤ i → bit_at m i ≡ bit_at n i) → m / 2 ^ k ≡ n / 2 ^ k
same_above m n k h = same_from_bits _ _ (λ i. bit_above m k i ∙ (h (k + i) (omega arith) ∙ sym (bit_above n k i)))

module _ (cuts : CutList) (keys : List (ℕ × ℕ)) (width : ℕ) where
  -- ---- between the turns

  quiet_driving : (left bits number : ℕ) → AllByRecursion (IsQuiet cuts width left number) keys → mask_of (stays cuts width (suc left) bits) keys ≡ mask_of (drives cuts width left bits) keys
  quiet_driving left bits number quiet =
      mask_agree_in (stays cuts width (suc left) bits) (drives cuts width left bits) keys
      (each_in (IsQuiet cuts width left number) (λ e. stays cuts width (suc left) bits e ≡ drives cuts width left bits e) keys
      (λ e q. sym (kept (stays cuts width (suc left) bits e)) ∙ (ap (λ b. stays cuts width (suc left) bits e && not b) (sym q.uncut) ∙ drives_is cuts width left bits e)) quiet)
    where
      kept : (b : Bool) → (b && true) ≡ b
      kept true = refl
      kept false = refl

  quiet_staying : (left bits number : ℕ) → left < width → AllByRecursion (IsQuiet cuts width left number) keys → mask_of (drives cuts width left bits) keys ≡ mask_of (stays cuts width left (2 * bits + bool_byte (is_one left number))) keys
  quiet_staying left bits number l quiet =
      mask_agree_in (drives cuts width left bits) (stays cuts width left (2 * bits + bool_byte (is_one left number))) keys
      (each_in (IsQuiet cuts width left number) (λ e. drives cuts width left bits e ≡ stays cuts width left (2 * bits + bool_byte (is_one left number)) e) keys
      (λ e q. sym (stays_is cuts width left bits (is_one left number) e l ∙ (ap (λ b. drives cuts width left bits e && cond (is_one left number) b (not b)) q.alike ∙ alike (drives cuts width left bits e) (is_one left number)))) quiet)
    where
      alike : (a b : Bool) → (a && cond b b (not b)) ≡ a
      alike true true = refl
      alike true false = refl
      alike false b = refl

  quiet_step : (left bits still number : ℕ) → AllByRecursion (IsQuiet cuts width left number) keys → still ≢ 0 → Contested cuts keys width (suc left) bits still → Contested cuts keys width left (2 * bits + bool_byte (is_one left number)) still
  quiet_step left bits still number quiet some h =
      let driving : still ≡ mask_of (drives cuts width left bits) keys = h.still_in ∙ quiet_driving left bits number quiet in
      let read : is_one left number ≡ list_all (drives_one left) (filter (drives cuts width left bits) keys) =
      reads (drives cuts width left bits) (drives_one left) (is_one left number) keys
      (each_in (IsQuiet cuts width left number) (λ e. drives_one left e ≡ is_one left number) keys (λ e q. q.alike) quiet)
      (λ e. some (driving ∙ e)) in
      record {
        reading = reading_more cuts keys width left bits (is_one left number) h.reading read;
        still_in = driving ∙ quiet_staying left bits number (omega (arith, h.reading.within)) quiet;
      }

  pub quiet_jump : (n left still number : ℕ) → ((i : ℕ) → left ≤ i → i < n + left → All (IsQuiet cuts width i number) keys) → still ≢ 0 → Contested cuts keys width (n + left) (number / 2 ^ (n + left)) still → Contested cuts keys width left (number / 2 ^ left) still
  quiet_jump zero left still number quiet some h = let same : 0 + left ≡ left = omega arith in subst (λ m. Contested cuts keys width m (number / 2 ^ m) still) same h
  quiet_jump (suc n) left still number quiet some h =
      quiet_jump n left still number (λ i low high. quiet i low (omega arith)) some
      (subst (λ bits. Contested cuts keys width (n + left) bits still) (whole number (n + left))
      (quiet_step (n + left) (number / 2 ^ suc (n + left)) still number (recursion_from_All (IsQuiet cuts width (n + left) number) keys (quiet (n + left) (omega arith) (omega arith))) some
      (let same : suc n + left ≡ suc (n + left) = omega arith in subst (λ m. Contested cuts keys width m (number / 2 ^ m) still) same h)))

  -- ---- where nobody is left

  idle_step : (left bits : ℕ) → Contested cuts keys width (suc left) bits 0 → Contested cuts keys width left (2 * bits + 1) 0
  idle_step left bits h =
      let none : mask_of (drives cuts width left bits) keys ≡ 0 = fewer (stays cuts width (suc left) bits) (drives cuts width left bits) keys (λ e out. sym (drives_is cuts width left bits e) ∙ ap (λ b. b && not (is_at (width - suc left) (cut_of cuts e.0))) out) (sym h.still_in) in
      let read : true ≡ list_all (drives_one left) (filter (drives cuts width left bits) keys) = sym (ap (list_all (drives_one left)) (nobody_left (drives cuts width left bits) keys none)) in
      record {
        reading = reading_more cuts keys width left bits true h.reading read;
        still_in = sym (fewer (drives cuts width left bits) (stays cuts width left (2 * bits + 1)) keys (λ e out. stays_is cuts width left bits true e (omega (arith, h.reading.within)) ∙ ap (λ b. b && drives_one left e) out) none);
      }

  pub idle_jump : (left number : ℕ) → ((i : ℕ) → i < left → is_one i number ≡ true) → Contested cuts keys width left (number / 2 ^ left) 0 → Contested cuts keys width 0 (number / 2 ^ 0) 0
  idle_jump zero number ones h = h
  idle_jump (suc left) number ones h =
      idle_jump left number (λ i l. ones i (omega arith))
      (subst (λ bits. Contested cuts keys width left bits 0) (ap (λ b. 2 * (number / 2 ^ suc left) + bool_byte b) (sym (ones left (omega arith))) ∙ whole number left) (idle_step left (number / 2 ^ suc left) h))

-- ---- the turns of all contenders

-- a bit that two numbers together don't have, or have
pub neither : (a b left : ℕ) → is_one left (bit_or a b) ≡ false → (is_one left a ≡ false) × (is_one left b ≡ false)
neither a b left none =
    let split : max (bit_at a left) (bit_at b left) ≡ 0 = sym (bit_at_or a b left) ∙ bit_none _ left none in
    (none_bit a left (omega (arith, split)), none_bit b left (omega (arith, split)))

pub either : (a b left : ℕ) → is_one left (bit_or a b) ≡ true → (is_one left a ≡ true) ⊎ (is_one left b ≡ true)
either a b left one = elim (cases_Bool (is_one left a)) [
  | inl has ↦ inl has
  | inr lacks ↦
      let split : max (bit_at a left) (bit_at b left) ≡ 1 = sym (bit_at_or a b left) ∙ bit_one _ left one in
      let none = bit_none a left lacks in
      inr (one_bit b left (omega (arith, split, none)))
]

-- no bit of 0
pub none_within : (width left : ℕ) → is_one left 0 ≡ true → left < width
none_within width left one = absurd (omega (arith, bit_at-zero left, bit_one 0 left one))

-- the contenders so far: where no turn is marked, their keys are alike
pub record AlikeSoFar (keys : List (ℕ × ℕ)) (width first i turns : ℕ) : Type 0 where
  pub alike : (left : ℕ) → is_one left turns ≡ false → All (λ e. is_one left e.1 ≡ is_one left first) (take i keys)
  pub within : (left : ℕ) → is_one left turns ≡ true → left < width

pub alike_none : (keys : List (ℕ × ℕ)) (width first : ℕ) → AlikeSoFar keys width first 0 0
alike_none keys width first = record { alike = λ left none k d m. absurd (omega (arith, m)); within = none_within width }

pub alike_more : (keys : List (ℕ × ℕ)) (width first i turns : ℕ) (x : ℕ × ℕ) → i < length keys → x ≡ get_or keys i x → x.1 < 2 ^ width → first < 2 ^ width
    → AlikeSoFar keys width first i turns → AlikeSoFar keys width first (i + 1) (bit_or turns (bit_xor x.1 first))
alike_more keys width first i turns x l at fits first_fits h = record {
  alike = λ left none.
      let parts = neither turns (bit_xor x.1 first) left none in
      let split : (bit_at x.1 left + bit_at first left) % 2 ≡ 0 = sym (bit_at_xor x.1 first left) ∙ bit_none _ left parts.1 in
      let same : bit_at x.1 left ≡ bit_at first left = omega (arith, split, bit_at-lt x.1 left, bit_at-lt first left) in
      All-more (λ e. is_one left e.1 ≡ is_one left first) keys i x l (h.alike left parts.0) (subst (λ (e : ℕ × ℕ). is_one left e.1 ≡ is_one left first) at (same_one x.1 first left same));
  within = λ left one. elim (either turns (bit_xor x.1 first) left one) [
    | inl before ↦ h.within left before
    | inr here ↦ elim (cases_lt left width) [
      | inl low ↦ low
      | inr high ↦
          let some : (bit_at x.1 left + bit_at first left) % 2 ≡ 1 = sym (bit_at_xor x.1 first left) ∙ bit_one _ left here in
          absurd (omega (arith, some, bit_at_above x.1 width left fits high, bit_at_above first width left first_fits high))
    ]
  ];
}

pub alike_all : (keys : List (ℕ × ℕ)) (width first i turns : ℕ) → length keys ≤ i → AlikeSoFar keys width first i turns → (left : ℕ) → is_one left turns ≡ false → All (λ e. is_one left e.1 ≡ is_one left first) keys
alike_all keys width first i turns past h left none = subst (All (λ (e : ℕ × ℕ). is_one left e.1 ≡ is_one left first)) (take_all i keys past) (h.alike left none)

-- the contenders so far: where no turn is marked, none of them is cut
abbrev pub IsUncutAt : CutList → ℕ → ℕ → ℕ × ℕ → Type 0
IsUncutAt cuts width left e = is_at (width - suc left) (cut_of cuts e.0) ≡ false

pub record UncutSoFar (cuts : CutList) (keys : List (ℕ × ℕ)) (width i turns : ℕ) : Type 0 where
  pub uncut : (left : ℕ) → left < width → is_one left turns ≡ false → All (IsUncutAt cuts width left) (take i keys)
  pub within : (left : ℕ) → is_one left turns ≡ true → left < width

pub uncut_none : (cuts : CutList) (keys : List (ℕ × ℕ)) (width : ℕ) → UncutSoFar cuts keys width 0 0
uncut_none cuts keys width = record { uncut = λ left l none k d m. absurd (omega (arith, m)); within = none_within width }

pub uncut_more : (cuts : CutList) (keys : List (ℕ × ℕ)) (width i turns cut : ℕ) (x : ℕ × ℕ) → i < length keys → x ≡ get_or keys i x
    → ((left : ℕ) → left < width → is_one left cut ≡ false → IsUncutAt cuts width left x) → ((left : ℕ) → is_one left cut ≡ true → left < width)
    → UncutSoFar cuts keys width i turns → UncutSoFar cuts keys width (i + 1) (bit_or turns cut)
uncut_more cuts keys width i turns cut x l at uncut cut_within h = record {
  uncut = λ left low none.
      let parts = neither turns cut left none in
      All-more (IsUncutAt cuts width left) keys i x l (h.uncut left low parts.0) (subst (IsUncutAt cuts width left) at (uncut left low parts.1));
  within = λ left one. elim (either turns cut left one) [ inl before ↦ h.within left before | inr here ↦ cut_within left here ];
}

pub uncut_all : (cuts : CutList) (keys : List (ℕ × ℕ)) (width i turns : ℕ) → length keys ≤ i → UncutSoFar cuts keys width i turns → (left : ℕ) → left < width → is_one left turns ≡ false → All (IsUncutAt cuts width left) keys
uncut_all cuts keys width i turns past h left low none = subst (All (IsUncutAt cuts width left)) (take_all i keys past) (h.uncut left low none)

-- the bit of a cut
pub cut_uncut : (width bit left : ℕ) → bit < width → width ≤ 64 → left < width → is_one left (1 * 2 ^ (width - 1 - bit) % 2 ^ 64) ≡ false → is_at (width - suc left) (Some bit) ≡ false
cut_uncut width bit left l fits low none = ne_eqb bit (width - suc left) (λ e.
    let same : left ≡ width - 1 - bit = omega (arith, e) in
    let one : bit_at (2 ^ (width - 1 - bit)) (width - 1 - bit) ≡ 1 = bit_at-pow_same (width - 1 - bit) in
    let none_at : bit_at (2 ^ (width - 1 - bit)) left ≡ 0 = ap (λ n. bit_at n left) (sym (one_shl (width - 1 - bit) 64 (omega arith))) ∙ bit_none _ left none in
    absurd (omega (arith, sym one ∙ (ap (bit_at (2 ^ (width - 1 - bit))) (sym same) ∙ none_at))))

pub cut_within : (width bit left : ℕ) → bit < width → width ≤ 64 → is_one left (1 * 2 ^ (width - 1 - bit) % 2 ^ 64) ≡ true → left < width
cut_within width bit left l fits one =
    let one_at : bit_at (2 ^ (width - 1 - bit)) left ≡ 1 = ap (λ n. bit_at n left) (sym (one_shl (width - 1 - bit) 64 (omega arith))) ∙ bit_one _ left one in
    elim (cases_eq left (width - 1 - bit)) [
      | inl same ↦ omega (arith, same)
      | inr other ↦ absurd (omega (arith, one_at, bit_at-pow_other (width - 1 - bit) left other))
    ]

-- ---- ones from a bit on

low_ones : (left : ℕ) → left < 64 → 18446744073709551615 / 2 ^ (63 - left) ≡ 2 ^ suc left - 1
low_ones left l = let same : 64 - (63 - left) ≡ suc left = omega arith in ones_shr 64 (63 - left) (omega arith) ∙ ap (λ k. 2 ^ k - 1) same

pub ones_above : (bits left : ℕ) → left < 64 → bit_or bits (18446744073709551615 / 2 ^ (63 - left)) / 2 ^ suc left ≡ bits / 2 ^ suc left
ones_above bits left l = ap (λ n. bit_or bits n / 2 ^ suc left) (low_ones left l) ∙ same_above _ _ (suc left) (λ i low. bit_at_or bits (2 ^ suc left - 1) i ∙ (let none = bit_at_ones_above (suc left) i low in omega arith))

pub ones_below : (bits left : ℕ) → left < 64 → (i : ℕ) → i ≤ left → is_one i (bit_or bits (18446744073709551615 / 2 ^ (63 - left))) ≡ true
ones_below bits left l i low = one_bit _ i (ap (λ n. bit_at (bit_or bits n) i) (low_ones left l) ∙ (bit_at_or bits (2 ^ suc left - 1) i ∙ (let one = bit_at_ones (suc left) i (omega arith) in omega (arith, one, bit_at-lt bits i))))

-- ---- from turn to turn

-- before the remaining turns: the contenders still in, the bits read, and no bit below them decided
pub record Turning (cuts : CutList) (keys : List (ℕ × ℕ)) (width turns bits still : ℕ) : Type 0 where
  pub left : ℕ
  pub contested : Contested cuts keys width left (bits / 2 ^ left) still
  pub someone : still ≢ 0
  pub below : (i : ℕ) → is_one i turns ≡ true → i < left
  pub quiet : (i : ℕ) → i < left → is_one i turns ≡ false → All (IsQuiet cuts width i bits) keys

abbrev pub set_bit : ℕ → ℕ → ℕ
set_bit n t = bit_or n (1 * 2 ^ t % 2 ^ 64)

abbrev pub clear_bit : ℕ → ℕ → ℕ
clear_bit n t = bit_and n (bit_not w64 (1 * 2 ^ t % 2 ^ 64))

pub record IsTop (turns t : ℕ) : Type 0 where
  pub low : 2 ^ t ≤ turns
  pub high : turns < 2 * 2 ^ t
  pub fits : t < 64

top_one : (turns t : ℕ) → IsTop turns t → is_one t turns ≡ true
top_one turns t top = one_bit turns t (let q : turns / 2 ^ t ≡ 1 = div-eq_of_lt-le {k = 1} (2 ^ t) {m = turns} (omega (arith, top.low)) (omega (arith, top.high)) in ap (λ n. n % 2) q)

top_above : (turns t i : ℕ) → IsTop turns t → t < i → is_one i turns ≡ false
top_above turns t i top l = none_bit turns i (bit_at_above turns (suc t) i (rw pow-suc (omega (arith, top.high))) l)

pub turn_less : (turns t : ℕ) → IsTop turns t → clear_bit turns t < turns
turn_less turns t top =
    let gone = bit_at_clear_same w64 turns t top.fits in
    let was = bit_one turns t (top_one turns t top) in
    let apart : clear_bit turns t ≢ turns = λ e. absurd (omega (arith, sym gone ∙ (ap (λ n. bit_at n t) e ∙ was))) in
    omega (arith, apart, and_le_l turns (bit_not w64 (1 * 2 ^ t % 2 ^ 64)))

-- the first contender
pub first_of : (keys : List (ℕ × ℕ)) (x : ℕ × ℕ) → Some x ≡ slice_get keys 0 → (0 < length keys) × (x ≡ get_or keys 0 x)
first_of [] x at = cc
first_of (y ∷ keys) x at = let some : Some x ≡ Some y = at in (omega arith, cc)

pub none_of : (keys : List (ℕ × ℕ)) → ◌≡◌ {A = Option (ℕ × ℕ)} None (slice_get keys 0) → keys ≡ []
none_of [] at = refl
none_of (y ∷ keys) at = cc

module _ (cuts : CutList) (keys : List (ℕ × ℕ)) (width : ℕ) where
  pub turning_first : (first turns still : ℕ) → 0 < length keys → All (λ e. e.1 < 2 ^ width) keys → first < 2 ^ width → still ≡ 2 ^ length keys - 1
      → ((left : ℕ) → left < width → is_one left turns ≡ false → All (IsQuiet cuts width left first) keys) → ((left : ℕ) → is_one left turns ≡ true → left < width)
      → Turning cuts keys width turns first still
  turning_first first turns still some fit fits e quiet within = record {
    left = width;
    contested = subst (λ b. Contested cuts keys width width b still) (sym (div-eq_of_lt fits)) (contested_first cuts keys width still fit e);
    someone = λ none. absurd (omega (arith, e, none, pow-le-pow_right {n = 2} (lit< tt) some));
    below = within;
    quiet = quiet;
  }

  -- up to the next turn
  turning_next : (turns bits still t : ℕ) → Turning cuts keys width turns bits still → IsTop turns t → Contested cuts keys width (suc t) (bits / 2 ^ suc t) still
  turning_next turns bits still t h top =
      let l : t < h.left = h.below t (top_one turns t top) in
      let up : h.left ≡ (h.left - suc t) + suc t = omega arith in
      quiet_jump cuts keys width (h.left - suc t) (suc t) still bits (λ i low high. h.quiet i (omega arith) (top_above turns t i top low)) h.someone
      (subst (λ n. Contested cuts keys width n (bits / 2 ^ n) still) up h.contested)

  pub turning_driving : (turns bits still t drop : ℕ) → length keys ≤ bits_of mask_width → Turning cuts keys width turns bits still → IsTop turns t → drop ≡ mask_of (λ e. is_at (width - suc t) (cut_of cuts e.0)) keys
      → (p : ℕ × ℕ → Bool) × (bit_and still (bit_not mask_width drop) ≡ mask_of p keys)
  turning_driving turns bits still t drop few h top cut =
      let next = turning_next turns bits still t h top in
      (drives cuts width t (bits / 2 ^ suc t), still_driving cuts keys width t (bits / 2 ^ suc t) still drop few next.still_in cut)

  pub turning_places : (turns bits still : ℕ) → Turning cuts keys width turns bits still → (p : ℕ × ℕ → Bool) × (still ≡ mask_of p keys)
  turning_places turns bits still h = (stays cuts width h.left (bits / 2 ^ h.left), h.contested.still_in)

  pub turning_within : (turns bits still t : ℕ) → Turning cuts keys width turns bits still → IsTop turns t → t < width
  turning_within turns bits still t h top = omega (arith, h.below t (top_one turns t top), h.contested.reading.within)

  -- nobody drives at it
  pub turning_unheard : (turns bits still t drop result : ℕ) → 0 < width → length keys ≤ bits_of mask_width → Turning cuts keys width turns bits still → IsTop turns t
      → drop ≡ mask_of (λ e. is_at (width - suc t) (cut_of cuts e.0)) keys → bit_and still (bit_not mask_width drop) ≡ 0
      → result / 2 ^ suc t ≡ bits / 2 ^ suc t → ((i : ℕ) → i ≤ t → is_one i result ≡ true)
      → ([] ≡ holders cuts keys width result) × Reading cuts keys width 0 result
  turning_unheard turns bits still t drop result some few h top cut none above ones =
      let next = turning_next turns bits still t h top in
      let silent : bit_and (bit_and still (bit_not mask_width drop)) (bit_not mask_width (mask_of (drives_one t) keys)) ≡ 0 = omega (arith, none, and_le_l (bit_and still (bit_not mask_width drop)) (bit_not mask_width (mask_of (drives_one t) keys))) in
      let at = contested_one cuts keys width t (bits / 2 ^ suc t) still drop (mask_of (drives_one t) keys) (record { few = few; cut = cut; ones = refl }) next silent in
      let read : 2 * (bits / 2 ^ suc t) + 1 ≡ result / 2 ^ t = ap (λ q. 2 * q + 1) (sym above) ∙ (ap (λ b. 2 * (result / 2 ^ suc t) + bool_byte b) (sym (ones t (omega arith))) ∙ whole result t) in
      let last = idle_jump cuts keys width t result (λ i l. ones i (omega arith)) (subst (λ b. Contested cuts keys width t b 0) read (subst (λ s. Contested cuts keys width t (2 * (bits / 2 ^ suc t) + 1) s) none at)) in
      contested_last cuts keys width 0 result 0 [] some (omega arith) (subst (λ b. Contested cuts keys width 0 b 0) (div-one result) last) (λ p e. sym (ap (map (λ (e : ℕ × ℕ). e.0)) (nobody_left p keys (sym e))))

  -- somebody does
  turned : (turns bits now still next t : ℕ) (b : Bool) → Turning cuts keys width turns bits still → IsTop turns t → turns < 2 ^ 64
      → ((i : ℕ) → i ≢ t → i < 64 → bit_at now i ≡ bit_at bits i) → ((i : ℕ) → 64 ≤ i → bit_at now i ≡ bit_at bits i) → is_one t now ≡ b → next ≢ 0
      → Contested cuts keys width t (2 * (bits / 2 ^ suc t) + bool_byte b) next → Turning cuts keys width (clear_bit turns t) now next
  turned turns bits now still next t b h top fits others past at some read = record {
    left = t;
    contested = subst (λ q. Contested cuts keys width t q next) ((λ k. 2 * upper k + bool_byte (sym at k)) ∙ whole now t) read;
    someone = some;
    below = λ i one. lower i (bit_one _ i one);
    quiet = λ i l none.
        let same = others i (λ e. absurd (omega (arith, e, l))) (omega (arith, l, top.fits)) in
        let kept = bit_at_clear_other w64 turns t top.fits i (omega (arith, l, top.fits)) (λ e. absurd (omega (arith, e, l))) in
        let before = h.quiet i (omega (arith, l, h.below t (top_one turns t top))) (none_bit turns i (sym kept ∙ bit_none _ i none)) in
        λ k d m. let q = before k d m in record { uncut = q.uncut; alike = q.alike ∙ same_one bits now i (sym same) };
  }
    where
      upper : bits / 2 ^ suc t ≡ now / 2 ^ suc t
      upper = same_above bits now (suc t) (λ i l. elim (cases_lt i 64) [ inl low ↦ sym (others i (λ e. absurd (omega (arith, e, l))) low) | inr high ↦ sym (past i high) ])

      inside : (i : ℕ) → bit_at (clear_bit turns t) i ≡ 1 → i < 64
      inside i one = elim (cases_lt i 64) [ inl low ↦ low | inr high ↦ absurd (omega (arith, one, bit_at_above (clear_bit turns t) 64 i (omega (arith, fits, and_le_l turns (bit_not w64 (1 * 2 ^ t % 2 ^ 64)))) high)) ]

      other : (i : ℕ) → bit_at (clear_bit turns t) i ≡ 1 → i ≢ t
      other i one e = absurd (omega (arith, sym one ∙ (ap (bit_at (clear_bit turns t)) e ∙ bit_at_clear_same w64 turns t top.fits)))

      was : (i : ℕ) → is_one i (clear_bit turns t) ≡ true → is_one i turns ≡ true
      was i one = let at_i = bit_one _ i one in one_bit turns i (sym (bit_at_clear_other w64 turns t top.fits i (inside i at_i) (other i at_i)) ∙ at_i)

      lower : (i : ℕ) → bit_at (clear_bit turns t) i ≡ 1 → i < t
      lower i one = elim (cases_lt t i) [
        | inl high ↦ absurd (both_ways (is_one i turns) (top_above turns t i top high) (was i (one_bit _ i one)))
        | inr low ↦ omega (arith, low, other i one)
      ]

  pub turning_one : (turns bits still t drop column : ℕ) → length keys ≤ bits_of mask_width → bits < 2 ^ 64 → turns < 2 ^ 64 → Turning cuts keys width turns bits still → IsTop turns t
      → drop ≡ mask_of (λ e. is_at (width - suc t) (cut_of cuts e.0)) keys → column ≡ mask_of (drives_one t) keys → bit_and still (bit_not mask_width drop) ≢ 0
      → bit_and (bit_and still (bit_not mask_width drop)) (bit_not mask_width column) ≡ 0
      → Turning cuts keys width (clear_bit turns t) (set_bit bits t) (bit_and still (bit_not mask_width drop))
  turning_one turns bits still t drop column few fits turns_fit h top cut ones some none =
      turned turns bits (set_bit bits t) still (bit_and still (bit_not mask_width drop)) t true h top turns_fit
      (λ i other low. bit_at_set_other w64 bits t top.fits i other) (λ i high. bit_at_set_other w64 bits t top.fits i (λ e. absurd (omega (arith, e, high, top.fits)))) (one_bit _ t (bit_at_set_same w64 bits t top.fits)) some
      (contested_one cuts keys width t (bits / 2 ^ suc t) still drop column (record { few = few; cut = cut; ones = ones }) (turning_next turns bits still t h top) none)

  pub turning_zero : (turns bits still t drop column : ℕ) → length keys ≤ bits_of mask_width → bits < 2 ^ 64 → turns < 2 ^ 64 → Turning cuts keys width turns bits still → IsTop turns t
      → drop ≡ mask_of (λ e. is_at (width - suc t) (cut_of cuts e.0)) keys → column ≡ mask_of (drives_one t) keys
      → bit_and (bit_and still (bit_not mask_width drop)) (bit_not mask_width column) ≢ 0
      → Turning cuts keys width (clear_bit turns t) (clear_bit bits t) (bit_and (bit_and still (bit_not mask_width drop)) (bit_not mask_width column))
  turning_zero turns bits still t drop column few fits turns_fit h top cut ones some =
      turned turns bits (clear_bit bits t) still (bit_and (bit_and still (bit_not mask_width drop)) (bit_not mask_width column)) t false h top turns_fit
      (λ i other low. bit_at_clear_other w64 bits t top.fits i low other)
      (λ i high. bit_at_above (clear_bit bits t) 64 i (omega (arith, fits, and_le_l bits (bit_not w64 (1 * 2 ^ t % 2 ^ 64)))) high ∙ sym (bit_at_above bits 64 i fits high))
      (none_bit _ t (bit_at_clear_same w64 bits t top.fits)) some
      (contested_zero cuts keys width t (bits / 2 ^ suc t) still drop column (record { few = few; cut = cut; ones = ones }) (turning_next turns bits still t h top) some)

  -- no turn is left
  pub turning_last : (bits still : ℕ) (winners : List ℕ) → 0 < width → Turning cuts keys width 0 bits still → ((p : ℕ × ℕ → Bool) → still ≡ mask_of p keys → winners ≡ map (λ e. e.0) (filter p keys))
      → (winners ≡ holders cuts keys width bits) × Reading cuts keys width 0 bits
  turning_last bits still winners some h named =
      let up : h.left ≡ h.left + 0 = omega arith in
      let last = quiet_jump cuts keys width h.left 0 still bits (λ i low high. h.quiet i (omega arith) (none_bit 0 i (bit_at-zero i))) h.someone (subst (λ n. Contested cuts keys width n (bits / 2 ^ n) still) up h.contested) in
      contested_last cuts keys width 0 bits still winners some (omega arith) (subst (λ b. Contested cuts keys width 0 b still) (div-one bits) last) named

  -- nobody contends
  pub none_contend : (result : ℕ) → 0 < width → width ≤ 64 → keys ≡ [] → result ≡ 18446744073709551615 / 2 ^ (64 - width) → ([] ≡ holders cuts keys width result) × Reading cuts keys width 0 result
  none_contend result some fits none e =
      let full : result ≡ 2 ^ width - 1 = e ∙ (ones_shr 64 (64 - width) (omega arith) ∙ (let same : 64 - (64 - width) ≡ width = omega arith in ap (λ k. 2 ^ k - 1) same)) in
      let over : result / 2 ^ width ≡ 0 = div-eq_of_lt (omega (arith, full, pow_pos width)) in
      let first : Contested cuts keys width width 0 0 = contested_first cuts keys width 0 (rw none (λ k d l. absurd (omega (arith, l)))) (rw none refl) in
      let last = idle_jump cuts keys width width result (λ i l. one_bit result i (ap (λ n. bit_at n i) full ∙ bit_at_ones width i l)) (subst (λ b. Contested cuts keys width width b 0) (sym over) first) in
      contested_last cuts keys width 0 result 0 [] some (omega arith) (subst (λ b. Contested cuts keys width 0 b 0) (div-one result) last) (λ p m. sym (ap (map (λ (e : ℕ × ℕ). e.0)) (nobody_left p keys (sym m))))
