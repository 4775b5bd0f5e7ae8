-- The contenders of a round: each is a hearer with its number, and each hearer is among them.
use Rattle.std.proofs.Common.{◌≡◌, ℕ, zero, suc, ◌+◌, ◌-◌, ◌<◌, ◌≤◌, ◌&&◌, ◌==◌, nat_le, if◌then◌else◌, true, false, List, [], ◌∷◌, ◌++◌, length, take, get_or, cond, Option, None, Some, inl, inr, refl, ap, sym, subst, ◌∙◌, arith, add-zero, zero-add, append-nil, append_assoc}
use Rattle.std.specs.List.{All, Contains}
use Rattle.std.proofs.lemmas.List.Elements.{All-append, All-nil, All-cons, Contains-append_left, Contains-push}
use Rattle.std.proofs.lemmas.Bool.{and_parts, both_ways, cases_eq, cases_lt, cond-false, cond-true, eq-eqb, eqb-true, le-leb, lt-leb, ne_eqb}
use Rattle.std.proofs.lemmas.List.{get_or_past, length-take-le, take_all, take_more}
use Rattle.std.proofs.lemmas.Option.{none-some}
use Rattle.i3c_base.specs.declared.range.TheConstants.{SLOTS}
use Rattle.i3c_base.specs.State.{Device, in_slot}
use Rattle.i3c_base.specs.Numbers.{IsInRange, number_of}
use Rattle.i3c_device.specs.declared.slot_set.SlotSet.{SlotSet}
use Rattle.i3c_device.specs.Sets.{has}
use Rattle.i3c_device.specs.Walks.{AreHearers, hears_as}
use Rattle.i3c_entdaa.specs.Hearers.{contender, contenders_from, IsContenderKey}

-- the contenders among the first slots
pub record ContendersSoFar (devices : List (Option Device)) (upto : ℕ) (keys : List (ℕ × ℕ)) : Type 0 where
  pub exact : keys ≡ contenders_from 0 (take upto devices)
  pub short : length keys ≤ upto
  pub sound : All (IsContenderKey devices) keys
  pub complete : (s : ℕ) (d : Device) → s < upto → get_or devices s None ≡ Some d → d.hearing ≡ true → Contains keys (s, number_of d.identity)

pub contenders_none : (devices : List (Option Device)) → ContendersSoFar devices 0 []
unfolding contenders_from
contenders_none devices = record { exact = refl; short = omega arith; sound = All-nil (IsContenderKey devices); complete = λ s d l. absurd (omega (arith, l)) }

-- the contender of one place
new_sound : (devices : List (Option Device)) (s : ℕ) (place : Option Device) → get_or devices s None ≡ place
    → ((d : Device) → place ≡ Some d → d.hearing ≡ true → IsInRange d.identity) → All (IsContenderKey devices) (contender s place)
new_sound devices s None e r = All-nil (IsContenderKey devices)
new_sound devices s (Some d) e r =
    elim d.hearing as (λ b. d.hearing ≡ b → All (IsContenderKey devices) (cond b ((s, number_of d.identity) ∷ []) [])) [
      | true ↦ λ h. All-cons (IsContenderKey devices) (s, number_of d.identity) [] (record { device = d; there = e; hearing = h; number = refl; in_range = r d refl h }) (All-nil (IsContenderKey devices))
      | false ↦ λ h. All-nil (IsContenderKey devices)
    ] refl

entered : (devices : List (Option Device)) (s : ℕ) (keys : List (ℕ × ℕ)) (d : Device) → get_or devices s None ≡ Some d → d.hearing ≡ true
    → Contains (keys ++ contender s (get_or devices s None)) (s, number_of d.identity)
entered devices s keys d there hearing =
    let is : contender s (get_or devices s None) ≡ (s, number_of d.identity) ∷ [] = ap (contender s) there ∙ ap (λ b. cond b ((s, number_of d.identity) ∷ []) []) hearing in
    subst (λ ks. Contains (keys ++ ks) (s, number_of d.identity)) (sym is) (Contains-push keys (s, number_of d.identity))

-- the contenders of one place more
from_push : (places : List (Option Device)) (place : Option Device) (slot : ℕ) → contenders_from slot (places ++ place ∷ []) ≡ contenders_from slot places ++ contender (slot + length places) place
unfolding contenders_from
from_push [] place slot = append-nil (contender slot place) ∙ ap (λ k. contender k place) (sym (add-zero slot))
from_push (p ∷ places) place slot =
    ap (λ ks. contender slot p ++ ks) (from_push places place (suc slot) ∙ ap (λ k. contenders_from (suc slot) places ++ contender k place) (omega arith))
    ∙ sym (append_assoc (contender slot p) (contenders_from (suc slot) places) (contender (slot + suc (length places)) place))

exact_more : (devices : List (Option Device)) (upto : ℕ) (place : Option Device) (keys now : List (ℕ × ℕ)) → upto < length devices → get_or devices upto None ≡ place
    → keys ≡ contenders_from 0 (take upto devices) → now ≡ keys ++ contender upto place → now ≡ contenders_from 0 (take (upto + 1) devices)
exact_more devices upto place keys now l at e is =
    let n : 0 + length (take upto devices) ≡ upto = zero-add (length (take upto devices)) ∙ length-take-le upto devices (omega (arith, l)) in
    is ∙ ap (λ ks. ks ++ contender upto place) e
    ∙ sym (
    ap (contenders_from 0) (take_more devices upto None l ∙ ap (λ p. take upto devices ++ p ∷ []) at)
    ∙ from_push (take upto devices) place 0
    ∙ ap (λ k. contenders_from 0 (take upto devices) ++ contender k place) n
    )

-- one place more
pub contenders_more : (devices : List (Option Device)) (upto : ℕ) (place : Option Device) (keys now : List (ℕ × ℕ)) → length devices ≡ SLOTS → upto < SLOTS → ContendersSoFar devices upto keys → get_or devices upto None ≡ place
    → now ≡ keys ++ contender upto place → length now ≤ upto + 1 → ((d : Device) → place ≡ Some d → d.hearing ≡ true → IsInRange d.identity) → ContendersSoFar devices (upto + 1) now
contenders_more devices upto place keys now sized inside h at is l r = record {
  exact = exact_more devices upto place keys now (omega (arith, sized, inside)) at h.exact is;
  short = l;
  sound = subst (All (IsContenderKey devices)) (sym is) (All-append (IsContenderKey devices) keys (contender upto place) h.sound (new_sound devices upto place at r));
  complete = λ s d b there hearing. subst (λ ks. Contains ks (s, number_of d.identity)) (sym (is ∙ ap (λ p. keys ++ contender upto p) (sym at))) (elim (cases_eq s upto) [
    | inl e ↦ subst (λ k. Contains (keys ++ contender upto (get_or devices upto None)) (k, number_of d.identity)) (sym e) (entered devices upto keys d (ap (λ k. get_or devices k None) (sym e) ∙ there) hearing)
    | inr n ↦ Contains-append_left keys (contender upto (get_or devices upto None)) (s, number_of d.identity) (h.complete s d (omega arith) there hearing)
  ]);
}

-- places in which nobody hears
silent_none : (slot : ℕ) (place : Option Device) → in_slot (λ d. d.hearing) place ≡ false → contender slot place ≡ []
silent_none slot None h = refl
silent_none slot (Some d) h = cond-false d.hearing ((slot, number_of d.identity) ∷ []) [] h

silent_out : (place : Option Device) (d : Device) → in_slot (λ e. e.hearing) place ≡ false → place ≡ Some d → d.hearing ≡ true → ⊥
silent_out place d h there hearing = both_ways _ (sym (ap (in_slot (λ e. e.hearing)) there) ∙ h) hearing

skip_by : (n : ℕ) (devices : List (Option Device)) (first : ℕ) (keys : List (ℕ × ℕ)) → length devices ≡ SLOTS → first + n ≤ SLOTS → ((t : ℕ) → first ≤ t → t < first + n → in_slot (λ d. d.hearing) (get_or devices t None) ≡ false)
    → ContendersSoFar devices first keys → ContendersSoFar devices (first + n) keys
skip_by zero devices first keys sized low silent h = subst (λ k. ContendersSoFar devices k keys) (sym (add-zero first)) h
skip_by (suc n) devices first keys sized low silent h =
    let same : first + 1 + n ≡ first + suc n = omega arith in
    let none = silent first (omega arith) (omega arith) in
    let one : ContendersSoFar devices (first + 1) keys =
    contenders_more devices first (get_or devices first None) keys keys sized (omega arith) h refl
    (sym (ap (λ ks. keys ++ ks) (silent_none first (get_or devices first None) none) ∙ append-nil keys)) (omega (arith, h.short)) (λ d e b. absurd (silent_out (get_or devices first None) d none e b)) in
    subst (λ k. ContendersSoFar devices k keys) same (skip_by n devices (first + 1) keys sized (omega arith) (λ t l m. silent t (omega arith) (omega arith)) one)

pub contenders_skip : (devices : List (Option Device)) (first upto : ℕ) (keys : List (ℕ × ℕ)) → length devices ≡ SLOTS → first ≤ upto → upto ≤ SLOTS → ((t : ℕ) → first ≤ t → t < upto → in_slot (λ d. d.hearing) (get_or devices t None) ≡ false)
    → ContendersSoFar devices first keys → ContendersSoFar devices upto keys
contenders_skip devices first upto keys sized l low silent h =
    let same : first + (upto - first) ≡ upto = omega arith in
    subst (λ k. ContendersSoFar devices k keys) same (skip_by (upto - first) devices first keys sized (omega arith) (λ t m n. silent t m (omega arith)) h)

-- all places were entered
pub contenders_exact : (devices : List (Option Device)) (keys : List (ℕ × ℕ)) → length devices ≡ SLOTS → ContendersSoFar devices SLOTS keys → keys ≡ contenders_from 0 devices
contenders_exact devices keys sized h = h.exact ∙ ap (contenders_from 0) (take_all SLOTS devices (omega (arith, sized)))

pub contenders_complete : (devices : List (Option Device)) (keys : List (ℕ × ℕ)) → length devices ≡ SLOTS → ContendersSoFar devices SLOTS keys
    → (s : ℕ) (d : Device) → get_or devices s None ≡ Some d → d.hearing ≡ true → Contains keys (s, number_of d.identity)
contenders_complete devices keys sized h s d there hearing = elim (cases_lt s SLOTS) [
  | inl l ↦ h.complete s d l there hearing
  | inr l ↦ absurd (none-some d (sym (get_or_past devices s None (omega (arith, sized, l))) ∙ there))
]

-- the hearers that are left are those from a slot on
abbrev pub AreLeftFrom : List (Option Device) → ℕ → SlotSet → Type 0
AreLeftFrom devices first left = (s : ℕ) → s < SLOTS → has left s ≡ (nat_le first s && in_slot (λ d. d.hearing) (get_or devices s None))

pub left_first : (devices : List (Option Device)) (left : SlotSet) → AreHearers left devices → AreLeftFrom devices 0 left
left_first devices left are s l = are s l ∙ ap (λ b. b && in_slot (λ d. d.hearing) (get_or devices s None)) (sym (le-leb 0 s (omega arith)))

-- the lowest of them, and those after it
pub taken_from : (devices : List (Option Device)) (first i : ℕ) (left : SlotSet) → AreLeftFrom devices first left → i < SLOTS → has left i ≡ true → (first ≤ i) × (in_slot (λ d. d.hearing) (get_or devices i None) ≡ true)
taken_from devices first i left are low there =
    let parts = and_parts (nat_le first i) (in_slot (λ d. d.hearing) (get_or devices i None)) (sym (are i low) ∙ there) in
    (elim (cases_lt i first) [ inl l ↦ absurd (both_ways _ (lt-leb first i l) parts.0) | inr above ↦ above ], parts.1)

pub silent_below : (devices : List (Option Device)) (first i : ℕ) (left : SlotSet) → AreLeftFrom devices first left → i < SLOTS → ((s : ℕ) → s < i → has left s ≡ false) → (t : ℕ) → first ≤ t → t < i
    → in_slot (λ d. d.hearing) (get_or devices t None) ≡ false
silent_below devices first i left are low below t above l =
    sym (are t (omega (arith, l, low)) ∙ ap (λ b. b && in_slot (λ d. d.hearing) (get_or devices t None)) (le-leb first t above)) ∙ below t l

pub left_more : (devices : List (Option Device)) (first i : ℕ) (left next : SlotSet) → AreLeftFrom devices first left → first ≤ i → ((s : ℕ) → s < i → has left s ≡ false)
    → ((s : ℕ) → s < SLOTS → has next s ≡ (if s == i then false else has left s)) → AreLeftFrom devices (i + 1) next
left_more devices first i left next are above below out s l = out s l ∙ elim (cases_lt s i) [
  | inl m ↦
      cond-false (s == i) false (has left s) (ne_eqb s i (λ e. omega (arith, e, m)))
      ∙ (below s m ∙ sym (ap (λ b. b && in_slot (λ d. d.hearing) (get_or devices s None)) (lt-leb (i + 1) s (omega (arith, m)))))
  | inr m ↦ elim (cases_eq s i) [
    | inl e ↦ cond-true (s == i) false (has left s) (eq-eqb s i e) ∙ sym (ap (λ b. b && in_slot (λ d. d.hearing) (get_or devices s None)) (lt-leb (i + 1) s (omega (arith, e))))
    | inr ne ↦
        let past : i + 1 ≤ s = omega (arith, m, ne) in
        cond-false (s == i) false (has left s) (ne_eqb s i ne)
        ∙ (are s l ∙ (λ t. (le-leb first s (omega (arith, above, past)) ∙ sym (le-leb (i + 1) s past)) t && in_slot (λ d. d.hearing) (get_or devices s None)))
  ]
]

-- nobody hears where none is left
pub none_from : (devices : List (Option Device)) (first : ℕ) (left : SlotSet) → AreLeftFrom devices first left → ((s : ℕ) → s < SLOTS → has left s ≡ false) → (t : ℕ) → first ≤ t → t < SLOTS
    → in_slot (λ d. d.hearing) (get_or devices t None) ≡ false
none_from devices first left are none t above l = sym (are t l ∙ ap (λ b. b && in_slot (λ d. d.hearing) (get_or devices t None)) (le-leb first t above)) ∙ none t l

-- a slot that hears with the number n holds a device that hears and has this number
pub as_whom : (n : ℕ) (o : Option Device) → hears_as n o ≡ true → (d : Device) × (o ≡ Some d) × (d.hearing ≡ true) × (number_of d.identity ≡ n)
as_whom n None h = absurd (both_ways _ refl h)
as_whom n (Some d) h = let parts = and_parts d.hearing (number_of d.identity == n) h in (d, refl, parts.0, eqb-true (number_of d.identity) n parts.1)

pub hears_so : (n : ℕ) (o : Option Device) (d : Device) → o ≡ Some d → d.hearing ≡ true → number_of d.identity ≡ n → hears_as n o ≡ true
hears_so n o d e h is = ap (hears_as n) e ∙ (ap (λ b. b && number_of d.identity == n) h ∙ eq-eqb (number_of d.identity) n is)
