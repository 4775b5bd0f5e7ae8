-- The sets of contenders at a bit, and the steps of a contest on them.
use Rattle.std.proofs.Common.{one-mul, ◌≡◌, ◌≢◌, ℕ, zero, suc, ◌+◌, ◌-◌, ◌*◌, ◌/◌, ◌%◌, ◌^◌, ◌<◌, ◌≤◌, ◌==◌, Bool, true, false, cond, not, ◌&&◌, List, [], ◌∷◌, ◌++◌, length, map, get_or, take, refl, ap, sym, subst, ◌∙◌, arith, inl, inr}
use Rattle.std.proofs.lemmas.Bool.{cases_eq, cases_lt, cond-true, cond-false, eq-eqb, ne_eqb, and_from, and_left, and_right, not_from_false, not_from_true}
use Rattle.std.proofs.lemmas.Nat.{and-not, and_comm, and_le_l, one_shl}
use Rattle.std.proofs.lemmas.Nat.Bits.{and_pow, bit_at-lt, bit_at-zero, bit_at_above, shr_and_one, bit_at_and, bit_at-trailing_zeros, bit_at_clear_same, bit_at_clear_other, bit_at_set_other, bit_at_set_same, same_from_bits}
use Rattle.std.proofs.lemmas.List.{append-nil, get_or-map, get_or_default, take_all, length-append, map-append}
use Rattle.std.proofs.lemmas.List.Elements.{recursion_from_All, All-weaker, filter_more}
use Rattle.std.specs.Int.{Width, w64, bit_at, bit_not, trailing_zeros}
use Rattle.std.specs.Int.RustNames.{bit_or}
use Rattle.std.specs.List.{All, filter, list_all}
use lib.Bits.{bit_and}
use Rattle.i3c_base.specs.Cutting.{CutList, cut_of}
use Rattle.i3c_wires.specs.Contest.{drives_one, holders, is_one}
use Rattle.i3c_wires.specs.Masks.{is_at, mask_of}
use Rattle.i3c_wires.proofs.MaskLaws.{mask_agree, mask_at, mask_but, mask_every, mask_kept, mask_none_but, passes, passes_past}
use Rattle.i3c_wires.proofs.Reading.{Reading, drives, drives_is, read_holders, reading_more, reading_none, stays, stays_first, stays_is}
use mir.Val.{bits as bits_of}

-- the width of a mask
abbrev pub mask_width : Width
mask_width = w64

-- ---- the elements of a set that drive 0, one place after another

-- the places without the lowest one
abbrev pub without_lowest : ℕ → ℕ
without_lowest rest = bit_and rest (bit_not mask_width (1 * 2 ^ trailing_zeros mask_width rest % 2 ^ bits_of mask_width))

lowest_gone : (rest : ℕ) → 0 < rest → rest < 2 ^ bits_of mask_width → bit_at (without_lowest rest) (trailing_zeros mask_width rest) ≡ 0
lowest_gone rest some fits = bit_at_clear_same mask_width rest (trailing_zeros mask_width rest) (bit_at-trailing_zeros mask_width rest some fits).0

others_kept : (rest : ℕ) → 0 < rest → rest < 2 ^ bits_of mask_width → (i : ℕ) → i < bits_of mask_width → i ≢ trailing_zeros mask_width rest → bit_at (without_lowest rest) i ≡ bit_at rest i
others_kept rest some fits i l n = bit_at_clear_other mask_width rest (trailing_zeros mask_width rest) (bit_at-trailing_zeros mask_width rest some fits).0 i l n

pub lowest_less : (rest : ℕ) → 0 < rest → rest < 2 ^ bits_of mask_width → without_lowest rest < rest
lowest_less rest some fits =
    let gone = lowest_gone rest some fits in
    let was = (bit_at-trailing_zeros mask_width rest some fits).1 in
    let apart : without_lowest rest ≢ rest = λ e. absurd (omega (arith, sym gone ∙ ap (λ n. bit_at n (trailing_zeros mask_width rest)) e ∙ was)) in
    omega (arith, and_le_l rest (bit_not mask_width (1 * 2 ^ trailing_zeros mask_width rest % 2 ^ bits_of mask_width)))

-- the lowest place, as a number that is subtracted
abbrev pub lowest_of : ℕ → ℕ
lowest_of rest = 1 * 2 ^ trailing_zeros mask_width rest % 2 ^ bits_of mask_width

pub lowest_off : (rest : ℕ) → 0 < rest → rest < 2 ^ bits_of mask_width → without_lowest rest + lowest_of rest ≡ rest
lowest_off rest some fits =
    let t = trailing_zeros mask_width rest in
    let lies = bit_at-trailing_zeros mask_width rest some fits in
    let m : lowest_of rest ≡ 2 ^ t = one_shl t (bits_of mask_width) lies.0 in
    let there : bit_and rest (2 ^ t) ≡ 2 ^ t = and_pow rest t ∙ (ap (λ b. b * 2 ^ t) lies.1 ∙ one-mul (2 ^ t)) in
    let held : bit_and (lowest_of rest) rest ≡ lowest_of rest = and_comm (lowest_of rest) rest ∙ (ap (bit_and rest) m ∙ (there ∙ sym m)) in
    let parts : bit_and (bit_not mask_width (lowest_of rest)) rest + bit_and (lowest_of rest) rest ≡ rest = and-not (bits_of mask_width) (lowest_of rest) rest (omega arith) fits in
    let turned : without_lowest rest ≡ bit_and (bit_not mask_width (lowest_of rest)) rest = and_comm rest (bit_not mask_width (lowest_of rest)) in
    omega (arith, parts, held, turned)

pub subtracted : (rest : ℕ) → 0 < rest → rest < 2 ^ bits_of mask_width → rest - lowest_of rest ≡ without_lowest rest
subtracted rest some fits = omega (arith, lowest_off rest some fits)

-- the key at a place
abbrev pub key_at : List (ℕ × ℕ) → ℕ → ℕ
key_at keys i = (get_or keys i (0, 0)).1

-- the places that drive 0, of those that aren't left over
pub record ZerosSoFar (keys : List (ℕ × ℕ)) (among left rest low : ℕ) : Type 0 where
  pub within : (i : ℕ) → bit_at rest i ≡ 1 → bit_at among i ≡ 1
  pub are : (i : ℕ) → i < bits_of mask_width → bit_at low i ≡ cond (not (is_one i rest) && (is_one i among && not (is_one left (key_at keys i)))) 1 0

pub zeros_none : (keys : List (ℕ × ℕ)) (among left : ℕ) → ZerosSoFar keys among left among 0
zeros_none keys among left = record { within = λ i h. h; are = λ i l. bit_at-zero i ∙ never (is_one i among) (not (is_one left (key_at keys i))) }
  where
    never : (a b : Bool) → ◌≡◌ {A = ℕ} 0 (cond (not a && (a && b)) 1 0)
    never true b = refl
    never false b = refl

-- the lowest place that is left over
pub lowest_place : (p : ℕ × ℕ → Bool) (keys : List (ℕ × ℕ)) (among left rest low : ℕ) → among ≡ mask_of p keys → 0 < rest → rest < 2 ^ bits_of mask_width → ZerosSoFar keys among left rest low → trailing_zeros mask_width rest < length keys
lowest_place p keys among left rest low named some fits h =
    let t = trailing_zeros mask_width rest in
    elim (cases_lt t (length keys)) [
      | inl inside ↦ inside
      | inr past ↦
          let none : bit_at among t ≡ 0 = ap (λ n. bit_at n t) named ∙ (mask_at p keys t ∙ ap (λ b. cond b 1 0) (passes_past p keys t past)) in
          absurd (omega (arith, none, h.within t (bit_at-trailing_zeros mask_width rest some fits).1))
    ]

-- what a key that is found has at a bit
key_found : (keys : List (ℕ × ℕ)) (i left : ℕ) (x : ℕ × ℕ) → i < length keys → bit_at (key_at keys i) left ≡ bit_and ((get_or keys i x).1 / 2 ^ left) 1
key_found keys i left x l = ap (λ (k : ℕ × ℕ). bit_at k.1 left) (get_or_default keys i (0, 0) x l) ∙ sym (shr_and_one (get_or keys i x).1 left)

pub key_zero : (keys : List (ℕ × ℕ)) (i left : ℕ) (x : ℕ × ℕ) → i < length keys → bit_and ((get_or keys i x).1 / 2 ^ left) 1 ≡ 0 → is_one left (key_at keys i) ≡ false
key_zero keys i left x l none = ne_eqb _ _ (λ one. absurd (omega (arith, key_found keys i left x l, none, one)))

pub key_one : (keys : List (ℕ × ℕ)) (i left : ℕ) (x : ℕ × ℕ) → i < length keys → bit_and ((get_or keys i x).1 / 2 ^ left) 1 ≢ 0 → is_one left (key_at keys i) ≡ true
key_one keys i left x l some =
    let other : bit_and ((get_or keys i x).1 / 2 ^ left) 1 ≡ 0 → ⊥ = some in
    eq-eqb _ _ (omega (arith, key_found keys i left x l, other, bit_at-lt (key_at keys i) left))

-- what is the same at the other places
zeros_still : (rest i : ℕ) → bit_at (without_lowest rest) i ≡ 1 → bit_at rest i ≡ 1
zeros_still rest i e = let mask = bit_not mask_width (1 * 2 ^ trailing_zeros mask_width rest % 2 ^ bits_of mask_width) in omega (arith, sym (bit_at_and rest mask i) ∙ e, bit_at-lt rest i)

zeros_other : (keys : List (ℕ × ℕ)) (among left rest low i : ℕ) → 0 < rest → rest < 2 ^ bits_of mask_width → ZerosSoFar keys among left rest low → i < bits_of mask_width → i ≢ trailing_zeros mask_width rest
    → bit_at low i ≡ cond (not (is_one i (without_lowest rest)) && (is_one i among && not (is_one left (key_at keys i)))) 1 0
zeros_other keys among left rest low i some fits h l n = h.are i l ∙ ap (λ m. cond (not (m == 1) && (is_one i among && not (is_one left (key_at keys i)))) 1 0) (sym (others_kept rest some fits i l n))

pub zeros_put : (keys : List (ℕ × ℕ)) (among left rest low : ℕ) → 0 < rest → rest < 2 ^ bits_of mask_width → ZerosSoFar keys among left rest low → is_one left (key_at keys (trailing_zeros mask_width rest)) ≡ false
    → ZerosSoFar keys among left (without_lowest rest) (bit_or low (1 * 2 ^ trailing_zeros mask_width rest % 2 ^ bits_of mask_width))
zeros_put keys among left rest low some fits h none = record {
  within = λ i e. h.within i (zeros_still rest i e);
  are = λ i l. elim (cases_eq i (trailing_zeros mask_width rest)) [
    | inl e ↦ subst (λ k. bit_at (bit_or low (1 * 2 ^ trailing_zeros mask_width rest % 2 ^ bits_of mask_width)) k ≡ cond (not (is_one k (without_lowest rest)) && (is_one k among && not (is_one left (key_at keys k)))) 1 0) (sym e) here
    | inr n ↦ bit_at_set_other mask_width low (trailing_zeros mask_width rest) lies.0 i n ∙ zeros_other keys among left rest low i some fits h l n
  ];
}
  where
    lies : (trailing_zeros mask_width rest < bits_of mask_width) × (bit_at rest (trailing_zeros mask_width rest) ≡ 1) × ((i : ℕ) → i < trailing_zeros mask_width rest → bit_at rest i ≡ 0)
    lies = bit_at-trailing_zeros mask_width rest some fits

    here : bit_at (bit_or low (1 * 2 ^ trailing_zeros mask_width rest % 2 ^ bits_of mask_width)) (trailing_zeros mask_width rest)
        ≡ cond (not (is_one (trailing_zeros mask_width rest) (without_lowest rest)) && (is_one (trailing_zeros mask_width rest) among && not (is_one left (key_at keys (trailing_zeros mask_width rest))))) 1 0
    here =
        let t = trailing_zeros mask_width rest in
        let gone : is_one t (without_lowest rest) ≡ false = ne_eqb _ _ (λ e. absurd (omega (arith, lowest_gone rest some fits, e))) in
        bit_at_set_same mask_width low t lies.0
        ∙ sym (cond-true _ 1 0 (and_from (not (is_one t (without_lowest rest))) (is_one t among && not (is_one left (key_at keys t))) (not_from_false _ gone)
        (and_from (is_one t among) (not (is_one left (key_at keys t))) (eq-eqb _ _ (h.within t lies.1)) (not_from_false _ none))))

pub zeros_pass : (keys : List (ℕ × ℕ)) (among left rest low : ℕ) → 0 < rest → rest < 2 ^ bits_of mask_width → ZerosSoFar keys among left rest low → is_one left (key_at keys (trailing_zeros mask_width rest)) ≡ true
    → ZerosSoFar keys among left (without_lowest rest) low
zeros_pass keys among left rest low some fits h one = record {
  within = λ i e. h.within i (zeros_still rest i e);
  are = λ i l. elim (cases_eq i (trailing_zeros mask_width rest)) [
    | inl e ↦ subst (λ k. bit_at low k ≡ cond (not (is_one k (without_lowest rest)) && (is_one k among && not (is_one left (key_at keys k)))) 1 0) (sym e) here
    | inr n ↦ zeros_other keys among left rest low i some fits h l n
  ];
}
  where
    lies : (trailing_zeros mask_width rest < bits_of mask_width) × (bit_at rest (trailing_zeros mask_width rest) ≡ 1) × ((i : ℕ) → i < trailing_zeros mask_width rest → bit_at rest i ≡ 0)
    lies = bit_at-trailing_zeros mask_width rest some fits

    here : bit_at low (trailing_zeros mask_width rest)
        ≡ cond (not (is_one (trailing_zeros mask_width rest) (without_lowest rest)) && (is_one (trailing_zeros mask_width rest) among && not (is_one left (key_at keys (trailing_zeros mask_width rest))))) 1 0
    here =
        let t = trailing_zeros mask_width rest in
        h.are t lies.0 ∙ (cond-false _ 1 0 (and_left (not (is_one t rest)) (is_one t among && not (is_one left (key_at keys t))) (not_from_true _ (eq-eqb _ _ lies.1)))
        ∙ sym (cond-false _ 1 0 (and_right (not (is_one t (without_lowest rest))) (is_one t among && not (is_one left (key_at keys t))) (and_right (is_one t among) (not (is_one left (key_at keys t))) (not_from_true _ one)))))

-- all places
pub zeros_all : (p : ℕ × ℕ → Bool) (keys : List (ℕ × ℕ)) (among left low : ℕ) → length keys ≤ bits_of mask_width → low < 2 ^ bits_of mask_width → among ≡ mask_of p keys → ZerosSoFar keys among left 0 low
    → low ≡ bit_and among (bit_not mask_width (mask_of (drives_one left) keys))
zeros_all p keys among left low few fits named h =
    same_from_bits _ _ (λ i. each i ∙ sym (mask_at (λ e. p e && not (drives_one left e)) keys i))
    ∙ (sym (mask_but mask_width p (drives_one left) keys few) ∙ ap (λ n. bit_and n (bit_not mask_width (mask_of (drives_one left) keys))) (sym named))
  where
    gone : (i : ℕ) → is_one i 0 ≡ false
    gone i = ne_eqb _ _ (λ e. absurd (omega (arith, bit_at-zero i, e)))

    bit_is : (b : Bool) → ((cond b 1 0) == 1) ≡ b
    bit_is true = refl
    bit_is false = refl

    in_set : (i : ℕ) → is_one i among ≡ passes p keys i
    in_set i = ap (λ n. n == 1) (ap (λ n. bit_at n i) named ∙ mask_at p keys i) ∙ bit_is (passes p keys i)

    each : (i : ℕ) → bit_at low i ≡ cond (passes (λ e. p e && not (drives_one left e)) keys i) 1 0
    each i = elim (cases_lt i (length keys)) [
      | inl inside ↦
          h.are i (omega (arith, inside, few))
          ∙ ((λ t. cond (not (gone i t) && ((in_set i ∙ get_or-map p keys i (0, 0) false inside) t && not (is_one left (key_at keys i)))) 1 0)
          ∙ ap (λ b. cond b 1 0) (sym (get_or-map (λ e. p e && not (drives_one left e)) keys i (0, 0) false inside)))
      | inr past ↦ elim (cases_lt i (bits_of mask_width)) [
        | inl low_place ↦
            h.are i low_place ∙ (cond-false _ 1 0 (and_right (not (is_one i 0)) (is_one i among && not (is_one left (key_at keys i))) (and_left (is_one i among) (not (is_one left (key_at keys i))) (in_set i ∙ passes_past p keys i past)))
            ∙ ap (λ b. cond b 1 0) (sym (passes_past (λ e. p e && not (drives_one left e)) keys i past)))
        | inr high ↦ bit_at_above low (bits_of mask_width) i fits high ∙ ap (λ b. cond b 1 0) (sym (passes_past (λ e. p e && not (drives_one left e)) keys i past))
      ]
    ]

-- ---- the slots at the places of a set

pub place_in : (p : ℕ × ℕ → Bool) (keys : List (ℕ × ℕ)) (places i : ℕ) (x : ℕ × ℕ) → places ≡ mask_of p keys → i < length keys → x ≡ get_or keys i x → bit_and (places / 2 ^ i) 1 ≡ cond (p x) 1 0
place_in p keys places i x e l at = shr_and_one places i ∙ (ap (λ n. bit_at n i) e ∙ (mask_at p keys i ∙ ap (λ b. cond b 1 0) (get_or-map p keys i x false l ∙ ap p (sym at))))

pub slots_more : (p : ℕ × ℕ → Bool) (keys : List (ℕ × ℕ)) (i : ℕ) (x : ℕ × ℕ) (slots : List ℕ) → i < length keys → x ≡ get_or keys i x → slots ≡ map (λ e. e.0) (filter p (take i keys)) → slots ++ cond (p x) (x.0 ∷ []) [] ≡ map (λ e. e.0) (filter p (take (i + 1) keys))
slots_more p keys i x slots l at h =
    let same : get_or keys i x ≡ x = sym at in
    ap (λ ys. ys ++ cond (p x) (x.0 ∷ []) []) h
    ∙ (ap (λ ys. map (λ (e : ℕ × ℕ). e.0) (filter p (take i keys)) ++ ys) (one (p x))
    ∙ (sym (map-append (λ (e : ℕ × ℕ). e.0) (filter p (take i keys)) (cond (p x) (x ∷ []) []))
    ∙ ap (map (λ (e : ℕ × ℕ). e.0)) (sym (filter_more p keys i x l ∙ ap (λ y. filter p (take i keys) ++ cond (p y) (y ∷ []) []) same))))
  where
    one : (b : Bool) → cond b (x.0 ∷ []) [] ≡ map (λ (e : ℕ × ℕ). e.0) (cond b (x ∷ []) [])
    one true = refl
    one false = refl

-- the slots of a set, of the places so far
pub record SlotsSoFar (keys : List (ℕ × ℕ)) (places i : ℕ) (slots : List ℕ) : Type 0 where
  pub room : length slots ≤ i
  pub are : (p : ℕ × ℕ → Bool) → places ≡ mask_of p keys → slots ≡ map (λ e. e.0) (filter p (take i keys))

pub slots_with : (keys : List (ℕ × ℕ)) (places i : ℕ) (slots now : List ℕ) (x : ℕ × ℕ) → SlotsSoFar keys places i slots → i < length keys → x ≡ get_or keys i x → bit_and (places / 2 ^ i) 1 ≡ 1 → now ≡ slots ++ x.0 ∷ [] → SlotsSoFar keys places (i + 1) now
slots_with keys places i slots now x h l at is e = record {
  room = omega (arith, ap length e, length-append slots (x.0 ∷ []), h.room);
  are = λ p named.
      let yes : p x ≡ true = passes_if (p x) (sym (place_in p keys places i x named l at) ∙ is) in
      e ∙ (sym (ap (λ b. slots ++ cond b (x.0 ∷ []) []) yes) ∙ slots_more p keys i x slots l at (h.are p named));
}
  where
    passes_if : (b : Bool) → ◌≡◌ {A = ℕ} (cond b 1 0) 1 → b ≡ true
    passes_if true e = refl
    passes_if false e = absurd (omega (arith, e))

pub slots_without : (keys : List (ℕ × ℕ)) (places i : ℕ) (slots now : List ℕ) (x : ℕ × ℕ) → SlotsSoFar keys places i slots → i < length keys → x ≡ get_or keys i x → bit_and (places / 2 ^ i) 1 ≢ 1 → now ≡ slots → SlotsSoFar keys places (i + 1) now
slots_without keys places i slots now x h l at isnt e = record {
  room = omega (arith, ap length e, h.room);
  are = λ p named.
      let no : p x ≡ false = fails_if (p x) (λ is. isnt (place_in p keys places i x named l at ∙ is)) in
      e ∙ (sym (append-nil slots) ∙ (sym (ap (λ b. slots ++ cond b (x.0 ∷ []) []) no) ∙ slots_more p keys i x slots l at (h.are p named)));
}
  where
    fails_if : (b : Bool) → (◌≡◌ {A = ℕ} (cond b 1 0) 1 → ⊥) → b ≡ false
    fails_if true n = absurd (n refl)
    fails_if false n = refl

-- from place to place: those between aren't in the set
slots_skip : (keys : List (ℕ × ℕ)) (places : ℕ) (slots : List ℕ) (n i : ℕ) → n + i ≤ length keys → ((j : ℕ) → i ≤ j → j < n + i → bit_at places j ≡ 0) → SlotsSoFar keys places i slots → SlotsSoFar keys places (n + i) slots
slots_skip keys places slots zero i l none h = let same : i ≡ 0 + i = omega arith in subst (λ k. SlotsSoFar keys places k slots) same h
slots_skip keys places slots (suc n) i l none h =
    let before = slots_skip keys places slots n i (omega (arith, l)) (λ j a b. none j a (omega (arith, b))) h in
    let x = get_or keys (n + i) (0, 0) in
    let zero_there : bit_and (places / 2 ^ (n + i)) 1 ≡ 0 = shr_and_one places (n + i) ∙ none (n + i) (omega arith) (omega arith) in
    let more = slots_without keys places (n + i) slots slots x before (omega (arith, l)) (get_or_default keys (n + i) (0, 0) x (omega (arith, l))) (λ e. absurd (omega (arith, e, zero_there))) refl in
    let same : n + i + 1 ≡ suc n + i = omega arith in
    subst (λ k. SlotsSoFar keys places k slots) same more

-- the slots of the places before this one, and the places that are left over
pub record SlotsLeft (keys : List (ℕ × ℕ)) (places first rest : ℕ) (slots : List ℕ) : Type 0 where
  pub so_far : SlotsSoFar keys places first slots
  pub low : first ≤ length keys
  pub before : (i : ℕ) → i < first → bit_at rest i ≡ 0
  pub after : (i : ℕ) → first ≤ i → i < bits_of mask_width → bit_at rest i ≡ bit_at places i

pub slots_none : (keys : List (ℕ × ℕ)) (places : ℕ) (slots : List ℕ) → slots ≡ [] → SlotsLeft keys places 0 places slots
slots_none keys places slots e = record {
  so_far = subst (SlotsSoFar keys places 0) (sym e) (record { room = omega arith; are = λ p named. refl });
  low = omega arith;
  before = λ i l. absurd (omega (arith, l));
  after = λ i l m. refl;
}

-- the lowest place that is left over
pub slots_place : (p : ℕ × ℕ → Bool) (keys : List (ℕ × ℕ)) (places first rest : ℕ) (slots : List ℕ) → places ≡ mask_of p keys → 0 < rest → rest < 2 ^ bits_of mask_width → SlotsLeft keys places first rest slots
    → (first ≤ trailing_zeros mask_width rest) × (bit_at places (trailing_zeros mask_width rest) ≡ 1) × (trailing_zeros mask_width rest < length keys)
slots_place p keys places first rest slots named some fits h =
    let t = trailing_zeros mask_width rest in
    let lies = bit_at-trailing_zeros mask_width rest some fits in
    let start : first ≤ t = elim (cases_lt t first) [ inl l ↦ absurd (omega (arith, h.before t l, lies.1)) | inr above ↦ above ] in
    let one : bit_at places t ≡ 1 = sym (h.after t start lies.0) ∙ lies.1 in (
      start,
      one,
      elim (cases_lt t (length keys)) [
        | inl inside ↦ inside
        | inr past ↦
            let none : bit_at places t ≡ 0 = ap (λ n. bit_at n t) named ∙ (mask_at p keys t ∙ ap (λ b. cond b 1 0) (passes_past p keys t past)) in
            absurd (omega (arith, none, one))
      ],
    )

pub slots_next : (p : ℕ × ℕ → Bool) (keys : List (ℕ × ℕ)) (places first rest : ℕ) (slots now : List ℕ) (x : ℕ × ℕ) → places ≡ mask_of p keys → 0 < rest → rest < 2 ^ bits_of mask_width → SlotsLeft keys places first rest slots
    → x ≡ get_or keys (trailing_zeros mask_width rest) x → now ≡ slots ++ x.0 ∷ [] → SlotsLeft keys places (trailing_zeros mask_width rest + 1) (without_lowest rest) now
slots_next p keys places first rest slots now x named some fits h at e = record {
  so_far = slots_with keys places t slots now x there found_at.2 at (shr_and_one places t ∙ found_at.1) e;
  low = omega (arith, found_at.2);
  before = λ i l. elim (cases_eq i t) [
    | inl same ↦ ap (bit_at (without_lowest rest)) same ∙ lowest_gone rest some fits
    | inr n ↦ others_kept rest some fits i (omega (arith, l, lies.0)) n ∙ lies.2 i (omega (arith, l, n))
  ];
  after = λ i l m. others_kept rest some fits i m (λ same. absurd (omega (arith, l, same))) ∙ h.after i (omega (arith, l, found_at.0)) m;
}
  where
    t : ℕ
    t = trailing_zeros mask_width rest

    lies : (t < bits_of mask_width) × (bit_at rest t ≡ 1) × ((i : ℕ) → i < t → bit_at rest i ≡ 0)
    lies = bit_at-trailing_zeros mask_width rest some fits

    found_at : (first ≤ t) × (bit_at places t ≡ 1) × (t < length keys)
    found_at = slots_place p keys places first rest slots named some fits h

    there : SlotsSoFar keys places t slots
    there =
        let same : t - first + first ≡ t = omega (arith, found_at.0) in
        subst (λ k. SlotsSoFar keys places k slots) same
        (slots_skip keys places slots (t - first) first (omega (arith, found_at.0, found_at.2)) (λ j a b. let l : j < t = omega (arith, b, found_at.0) in sym (h.after j a (omega (arith, l, lies.0))) ∙ lies.2 j l) h.so_far)

-- all places
pub slots_all : (keys : List (ℕ × ℕ)) (places first : ℕ) (slots : List ℕ) → length keys ≤ bits_of mask_width → SlotsLeft keys places first 0 slots
    → (p : ℕ × ℕ → Bool) → places ≡ mask_of p keys → slots ≡ map (λ e. e.0) (filter p keys)
slots_all keys places first slots few h p named =
    let same : length keys - first + first ≡ length keys = omega (arith, h.low) in
    let last = subst (λ k. SlotsSoFar keys places k slots) same
    (slots_skip keys places slots (length keys - first) first (omega (arith, h.low)) (λ j a b. sym (h.after j a (omega (arith, b, few, h.low))) ∙ bit_at-zero j) h.so_far) in
    last.are p named ∙ ap (λ ks. map (λ (e : ℕ × ℕ). e.0) (filter p ks)) (take_all (length keys) keys (omega arith))

-- ---- the steps of a contest

-- the bits read before the last `left` bits, and the contenders still in
pub record Contested (cuts : CutList) (keys : List (ℕ × ℕ)) (width left bits still : ℕ) : Type 0 where
  pub reading : Reading cuts keys width left bits
  pub still_in : still ≡ mask_of (stays cuts width left bits) keys

-- the sets of one bit: the contenders cut there, and those that drive 1 there
pub record Sets (cuts : CutList) (keys : List (ℕ × ℕ)) (width left drop column : ℕ) : Type 0 where
  pub few : length keys ≤ bits_of mask_width
  pub cut : drop ≡ mask_of (λ e. is_at (width - suc left) (cut_of cuts e.0)) keys
  pub ones : column ≡ mask_of (drives_one left) keys

module _ (cuts : CutList) (keys : List (ℕ × ℕ)) (width : ℕ) where
  pub still_first : (mask : ℕ) → All (λ e. e.1 < 2 ^ width) keys → mask ≡ 2 ^ length keys - 1 → mask ≡ mask_of (stays cuts width width 0) keys
  still_first mask fit e = omega (arith, e, mask_every (stays cuts width width 0) keys (recursion_from_All (λ e. stays cuts width width 0 e ≡ true) keys (All-weaker (λ e. e.1 < 2 ^ width) (λ e. stays cuts width width 0 e ≡ true) (stays_first cuts width) keys fit)))

  -- the contenders that are in and not cut at the bit
  pub still_driving : (left bits still drop : ℕ) → length keys ≤ bits_of mask_width → still ≡ mask_of (stays cuts width (suc left) bits) keys → drop ≡ mask_of (λ e. is_at (width - suc left) (cut_of cuts e.0)) keys → bit_and still (bit_not mask_width drop) ≡ mask_of (drives cuts width left bits) keys
  still_driving left bits still drop few s d =
      (λ t. bit_and (s t) (bit_not mask_width (d t)))
      ∙ (mask_but mask_width (stays cuts width (suc left) bits) (λ e. is_at (width - suc left) (cut_of cuts e.0)) keys few
      ∙ mask_agree (λ e. stays cuts width (suc left) bits e && not (is_at (width - suc left) (cut_of cuts e.0))) (drives cuts width left bits) keys (drives_is cuts width left bits))

  -- those of them that drive 0
  still_low : (left bits driving column : ℕ) → length keys ≤ bits_of mask_width → driving ≡ mask_of (drives cuts width left bits) keys → column ≡ mask_of (drives_one left) keys → bit_and driving (bit_not mask_width column) ≡ mask_of (λ e. drives cuts width left bits e && not (drives_one left e)) keys
  still_low left bits driving column few s p = (λ t. bit_and (s t) (bit_not mask_width (p t))) ∙ mask_but mask_width (drives cuts width left bits) (drives_one left) keys few

  -- nobody does: 1 is read, and all of them stay
  read_one : (left bits low : ℕ) → low ≡ mask_of (λ e. drives cuts width left bits e && not (drives_one left e)) keys → low ≡ 0 → true ≡ list_all (drives_one left) (filter (drives cuts width left bits) keys)
  read_one left bits low e none = sym (eq-eqb _ _ (sym e ∙ none)) ∙ mask_none_but (drives cuts width left bits) (drives_one left) keys

  still_one : (left bits driving : ℕ) → left < width → driving ≡ mask_of (drives cuts width left bits) keys → true ≡ list_all (drives_one left) (filter (drives cuts width left bits) keys) → driving ≡ mask_of (stays cuts width left (2 * bits + 1)) keys
  still_one left bits driving l d read =
      d ∙ (mask_kept (drives cuts width left bits) (drives_one left) keys (sym read)
      ∙ mask_agree (λ e. drives cuts width left bits e && drives_one left e) (stays cuts width left (2 * bits + 1)) keys (λ e. sym (stays_is cuts width left bits true e l)))

  -- someone does: 0 is read, and they alone stay
  read_zero : (left bits low : ℕ) → low ≡ mask_of (λ e. drives cuts width left bits e && not (drives_one left e)) keys → low ≢ 0 → false ≡ list_all (drives_one left) (filter (drives cuts width left bits) keys)
  read_zero left bits low e some = sym (ne_eqb _ _ (λ z. some (e ∙ z))) ∙ mask_none_but (drives cuts width left bits) (drives_one left) keys

  still_zero : (left bits low : ℕ) → left < width → low ≡ mask_of (λ e. drives cuts width left bits e && not (drives_one left e)) keys → low ≡ mask_of (stays cuts width left (2 * bits + 0)) keys
  still_zero left bits low l e = e ∙ mask_agree (λ e. drives cuts width left bits e && not (drives_one left e)) (stays cuts width left (2 * bits + 0)) keys (λ e. sym (stays_is cuts width left bits false e l))

  pub contested_first : (mask : ℕ) → All (λ e. e.1 < 2 ^ width) keys → mask ≡ 2 ^ length keys - 1 → Contested cuts keys width width 0 mask
  contested_first mask fit e = record { reading = reading_none cuts keys width fit; still_in = still_first mask fit e }

  -- one bit more, where nobody drives 0
  pub contested_one : (left bits still drop column : ℕ) → Sets cuts keys width left drop column → Contested cuts keys width (suc left) bits still → bit_and (bit_and still (bit_not mask_width drop)) (bit_not mask_width column) ≡ 0
      → Contested cuts keys width left (2 * bits + 1) (bit_and still (bit_not mask_width drop))
  contested_one left bits still drop column sets h none =
      let driving = still_driving left bits still drop sets.few h.still_in sets.cut in
      let low = still_low left bits (bit_and still (bit_not mask_width drop)) column sets.few driving sets.ones in
      let read = read_one left bits _ low none in
      record { reading = reading_more cuts keys width left bits true h.reading read; still_in = still_one left bits _ (omega (arith, h.reading.within)) driving read }

  -- and where someone does
  pub contested_zero : (left bits still drop column : ℕ) → Sets cuts keys width left drop column → Contested cuts keys width (suc left) bits still → bit_and (bit_and still (bit_not mask_width drop)) (bit_not mask_width column) ≢ 0
      → Contested cuts keys width left (2 * bits + 0) (bit_and (bit_and still (bit_not mask_width drop)) (bit_not mask_width column))
  contested_zero left bits still drop column sets h some =
      let driving = still_driving left bits still drop sets.few h.still_in sets.cut in
      let low = still_low left bits (bit_and still (bit_not mask_width drop)) column sets.few driving sets.ones in
      let read = read_zero left bits _ low some in
      record { reading = reading_more cuts keys width left bits false h.reading read; still_in = still_zero left bits _ (omega (arith, h.reading.within)) low }

  -- all bits were read: a contender that is still in holds the number, and isn't lost
  pub contested_last : (left bits still : ℕ) (winners : List ℕ) → 0 < width → left ≤ 0 → Contested cuts keys width left bits still → ((p : ℕ × ℕ → Bool) → still ≡ mask_of p keys → winners ≡ map (λ e. e.0) (filter p keys)) → (winners ≡ holders cuts keys width bits) × Reading cuts keys width 0 bits
  contested_last left bits still winners l none h named =
      let last : Contested cuts keys width 0 bits still = subst (λ n. Contested cuts keys width n bits still) (omega arith) h in
      (named (stays cuts width 0 bits) last.still_in ∙ read_holders cuts keys width bits l, last.reading)
