-- A round in which no device is cut: the least identity of the hearers is read, and its device acknowledges the address.
use Rattle.std.proofs.Common.{◌≡◌, ℕ, zero, suc, ◌+◌, ◌-◌, ◌*◌, ◌/◌, ◌%◌, ◌^◌, ◌<◌, ◌≤◌, Bool, true, false, not, ◌&&◌, cond, List, [], ◌∷◌, ◌++◌, length, get_or, Option, None, Some, option_map, refl, ap, sym, subst, ◌∙◌, arith, inl, inr, length-append}
use Rattle.std.proofs.Math.ListN.{get_or-map}
use Rattle.std.proofs.Math.Bool.{and-true}
use Rattle.std.proofs.Math.Nat.{div-div-eq-div-mul, div-mul-le_self, pow-suc}
use Rattle.std.proofs.lemmas.Nat.{le-div, pow_pos}
use Rattle.std.proofs.lemmas.Bool.{and_from, and_parts, both_ways, cases_Bool, eq-eqb, eqb-true, true≢false}
use Rattle.std.proofs.lemmas.List.Elements.{All-contains, All-from_recursion, All-weaker, recursion_from_All}
use Rattle.std.specs.List.{All, AllByRecursion, Contains, filter, list_all}
use Rattle.i3c_base.specs.declared.range.TheConstants.{SLOTS}
use Rattle.i3c_base.specs.Cutting.{CutList, IsUncut, counted_from, is_by, lost_by}
use Rattle.i3c_base.specs.declared.identity.Identity.{Identity}
use Rattle.i3c_base.specs.Numbers.{IsBelow, number_of}
use Rattle.i3c_base.specs.State.{Device, State}
use Rattle.i3c_base.proofs.NumberLaws.{below_number}
use Rattle.i3c_wires.specs.Contest.{EachBit, drives_one, is_cut, is_in, is_one}
use Rattle.i3c_wires.proofs.Reading.{all_kept}
use Rattle.i3c_device.specs.declared.slot_set.SlotSet.{SlotSet}
use Rattle.i3c_device.specs.Least.{IsLeastHeard}
use Rattle.i3c_device.specs.Walks.{hears_as}
use Rattle.i3c_entdaa.specs.Hearers.{IsContenderKey, contender, contenders_from}
use Rattle.i3c_entdaa.specs.Parts.{AreTakers, HearersAreRanged, IsContest}
use Rattle.i3c_entdaa.specs.Rounds.{IsContested}
use Rattle.i3c_entdaa.proofs.HearersLaws.{ContendersSoFar, as_whom, contenders_complete, contenders_exact, contenders_more, contenders_none}

-- ---- without cuts nobody is lost

not_lost : (cuts : CutList) (last s : ℕ) → IsUncut cuts → lost_by cuts last s ≡ false
not_lost cuts last s uncut = ap (is_by last) (uncut s)

uncut_counted : (first : ℕ) (cuts : CutList) → IsUncut cuts → IsUncut (counted_from first cuts)
uncut_counted first cuts uncut s = get_or-map (option_map (λ (bit : ℕ). bit - first)) cuts s None ∙ ap (option_map (λ (bit : ℕ). bit - first)) (uncut s)

-- ---- the least number is read

-- of two numbers that agree above a bit: where the smaller one has a 1 there, the other has one too
odd_too : (a b : ℕ) → a ≤ b → b / 2 ≡ a / 2 → a % 2 ≡ 1 → b % 2 ≡ 1
odd_too a b l same odd = omega arith

upper : (n left : ℕ) → n / 2 ^ suc left ≡ n / 2 ^ left / 2
upper n left = rw pow-suc (sym (div-div-eq-div-mul n (2 ^ left) 2))

one_too : (left m n : ℕ) → m ≤ n → n / 2 ^ suc left ≡ m / 2 ^ suc left → is_one left m ≡ true → is_one left n ≡ true
one_too left m n l same one =
    let whole : m / 2 ^ left * 2 ^ left ≤ m = div-mul-le_self m (2 ^ left) in
    let above : m / 2 ^ left ≤ n / 2 ^ left = le-div (m / 2 ^ left) n (2 ^ left) (pow_pos left) (omega (arith, whole, l)) in
    eq-eqb (n / 2 ^ left % 2) 1 (odd_too (m / 2 ^ left) (n / 2 ^ left) above (sym (upper n left) ∙ (same ∙ upper m left)) (eqb-true (m / 2 ^ left % 2) 1 one))

-- all that q keeps pass p
all_pass : (p q : ℕ × ℕ → Bool) (keys : List (ℕ × ℕ)) → AllByRecursion (λ e. q e ≡ true → p e ≡ true) keys → list_all p (filter q keys) ≡ true
all_pass p q [] h = refl
all_pass p q (k ∷ keys) h =
    elim (q k) as (λ b. (b ≡ true → p k ≡ true) → list_all p (cond b (k ∷ filter q keys) (filter q keys)) ≡ true) [
      | true ↦ λ pass. and_from (p k) (list_all p (filter q keys)) (pass refl) (all_pass p q keys h.1)
      | false ↦ λ pass. all_pass p q keys h.1
    ] h.0

-- one that q keeps fails p
one_fails : (p q : ℕ × ℕ → Bool) (keys : List (ℕ × ℕ)) (e : ℕ × ℕ) → Contains keys e → q e ≡ true → p e ≡ false → list_all p (filter q keys) ≡ false
one_fails p q keys e has kept fails = elim (cases_Bool (list_all p (filter q keys))) [
  | inl all ↦
      let pass = All-from_recursion (λ (x : ℕ × ℕ). q x ≡ true → p x ≡ true) keys (all_kept p q keys all) in
      absurd (both_ways (p e) fails (All-contains (λ (x : ℕ × ℕ). q x ≡ true → p x ≡ true) keys e pass has kept))
  | inr none ↦ none
]

-- without cuts each bit of the least key is the AND of what the contenders still in drive: the least key itself is one of
-- them
each_least : (cuts : CutList) (keys : List (ℕ × ℕ)) (width least s : ℕ) → IsUncut cuts → All (λ e. least ≤ e.1) keys → Contains keys (s, least) → EachBit cuts keys width least
each_least cuts keys width least s uncut low has left l = elim (cases_Bool (is_one left least)) [
  | inl one ↦ one ∙ sym (all_pass (drives_one left) drives keys (recursion_from_All (λ e. drives e ≡ true → drives_one left e ≡ true) keys (driven one)))
  | inr none ↦ none ∙ sym (one_fails (drives_one left) drives keys (s, least) has itself none)
]
  where
    drives : ℕ × ℕ → Bool
    drives e = is_in least left e && not (is_cut cuts width left e)

    agrees : (e : ℕ × ℕ) → drives e ≡ true → e.1 / 2 ^ suc left ≡ least / 2 ^ suc left
    agrees e is = eqb-true (e.1 / 2 ^ suc left) (least / 2 ^ suc left) (and_parts (is_in least left e) (not (is_cut cuts width left e)) is).0

    driven : is_one left least ≡ true → All (λ e. drives e ≡ true → drives_one left e ≡ true) keys
    driven one = All-weaker (λ (e : ℕ × ℕ). least ≤ e.1) (λ e. drives e ≡ true → drives_one left e ≡ true) (λ e above is. one_too left least e.1 above (agrees e is) one) keys low

    itself : drives (s, least) ≡ true
    itself = and_from (is_in least left (s, least)) (not (is_cut cuts width left (s, least))) (eq-eqb (least / 2 ^ suc left) (least / 2 ^ suc left) refl) (ap not (not_lost cuts (width - suc left) s uncut))

-- ---- the contenders

one_at_most : (b : Bool) (key : ℕ × ℕ) → length (cond b (key ∷ []) []) ≤ 1
one_at_most true key = omega arith
one_at_most false key = omega arith

one_contender : (slot : ℕ) (place : Option Device) → length (contender slot place) ≤ 1
one_contender slot None = omega arith
one_contender slot (Some d) = one_at_most d.hearing (slot, number_of d.identity)

-- the contenders of the first slots, and of all
contenders_upto : (devices : List (Option Device)) (n : ℕ) → length devices ≡ SLOTS → HearersAreRanged devices → n ≤ SLOTS → (keys : List (ℕ × ℕ)) × ContendersSoFar devices n keys
contenders_upto devices zero sized ranged l = ([], contenders_none devices)
contenders_upto devices (suc n) sized ranged l =
    let before = contenders_upto devices n sized ranged (omega arith) in
    let place : Option Device = get_or devices n None in
    let keys : List (ℕ × ℕ) = before.0 ++ contender n place in
    let few : length (before.0 ++ contender n place) ≤ n + 1 = omega (arith, length-append before.0 (contender n place), one_contender n place, before.1.short) in
    let more : ContendersSoFar devices (n + 1) keys = contenders_more devices n place before.0 keys sized (omega arith) before.1 refl refl few (ranged n) in
    let same : n + 1 ≡ suc n = omega arith in
    (keys, subst (λ k. ContendersSoFar devices k keys) same more)

contenders_all : (devices : List (Option Device)) → length devices ≡ SLOTS → HearersAreRanged devices → ContendersSoFar devices SLOTS (contenders_from 0 devices)
contenders_all devices sized ranged =
    let all = contenders_upto devices SLOTS sized ranged (omega arith) in
    subst (ContendersSoFar devices SLOTS) (contenders_exact devices all.0 sized all.1) all.1

-- ---- the hearers with the least identity

-- the device in this slot hears, and its identity has this number
record HearsAs (devices : List (Option Device)) (bits s : ℕ) (d : Device) : Type 0 where
  there : get_or devices s None ≡ Some d
  hearing : d.hearing ≡ true
  number : number_of d.identity ≡ bits

somebody : (devices : List (Option Device)) (least : ℕ × SlotSet) → IsLeastHeard devices least → (s : ℕ) × (d : Device) × HearsAs devices least.0 s d
somebody devices least h =
    let w = as_whom least.0 (get_or devices h.some.0 None) (sym (h.slots h.some.0 h.some.1) ∙ h.some.2) in
    (h.some.0, w.0, record { there = w.1; hearing = w.2; number = w.3 })

-- the least number is what the contenders drive at once
contested : (devices : List (Option Device)) (cuts : CutList) (least : ℕ × SlotSet) (s : ℕ) (d : Device) → length devices ≡ SLOTS → IsUncut cuts → IsLeastHeard devices least → HearsAs devices least.0 s d
    → IsContested cuts devices least.0
contested devices cuts least s d sized uncut h read =
    let keys = contenders_all devices sized h.ranged in
    let range = h.ranged s d read.there read.hearing in
    let low : All (λ (e : ℕ × ℕ). least.0 ≤ e.1) (contenders_from 0 devices) =
    All-weaker (IsContenderKey devices) (λ (e : ℕ × ℕ). least.0 ≤ e.1) (λ e k. subst (λ n. least.0 ≤ n) (sym k.number) (h.lowest e.0 k.device k.there k.hearing)) (contenders_from 0 devices) keys.sound in
    let has : Contains (contenders_from 0 devices) (s, least.0) = subst (λ n. Contains (contenders_from 0 devices) (s, n)) read.number (contenders_complete devices (contenders_from 0 devices) sized keys s d read.there read.hearing) in (
      omega (arith, range, read.number),
      each_least (counted_from 1 cuts) (contenders_from 0 devices) 64 least.0 s (uncut_counted 1 cuts uncut) low has,
    )

-- the whole of a contest without cuts
pub least_contest : (st : State) (devices : List (Option Device)) (cuts : CutList) (least : ℕ × SlotSet) → st.devices ≡ devices → length devices ≡ SLOTS → IsUncut cuts → IsLeastHeard devices least → IsContest st cuts least.0 true
least_contest st devices cuts least same sized uncut heard =
    let h : IsLeastHeard st.devices least = subst (λ ds. IsLeastHeard ds least) (sym same) heard in
    let one = somebody st.devices least h in
    let s : ℕ = one.0 in
    let d : Device = one.1 in
    let read : HearsAs st.devices least.0 s d = one.2 in
    let range = h.ranged s d read.there read.hearing in
    record {
      heard = (d.identity, (s, d, (read.there, read.hearing), not_lost cuts 0 s uncut, refl));
      contested = contested st.devices cuts least s d (ap length same ∙ sized) uncut h read;
      won = λ yes. (
        d.identity,
        range,
        read.number,
        (
          (s, d, (read.there, read.hearing), not_lost cuts 73 s uncut, refl),
          λ j other below.
              let e : Device = other.1 in
              let l : least.0 ≤ number_of e.identity = h.lowest other.0 e other.2.0 other.2.1 in
              let m : number_of e.identity < number_of d.identity = below_number e.identity d.identity (h.ranged other.0 e other.2.0 other.2.1) range (subst (λ (x : Identity). IsBelow x d.identity) (sym other.4) below) in
              absurd (omega (arith, l, m, read.number)),
        ),
      );
      lost = λ no. absurd (true≢false no);
    }

-- nobody is lost, so each hearer with the identity acknowledges
pub least_takers : (devices : List (Option Device)) (cuts : CutList) (least : ℕ × SlotSet) → IsUncut cuts → IsLeastHeard devices least → AreTakers cuts devices least.0 least.1
least_takers devices cuts least uncut h s l = h.slots s l ∙ sym (ap (λ b. hears_as least.0 (get_or devices s None) && not b) (not_lost cuts 73 s uncut) ∙ and-true (hears_as least.0 (get_or devices s None)))
