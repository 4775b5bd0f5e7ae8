-- What the lines give while devices drive their registers.
use Rattle.std.proofs.Common.{◌≡◌, ℕ, ◌+◌, ◌-◌, ◌*◌, ◌/◌, ◌^◌, ◌<◌, ◌≤◌, ◌↔◌, Bool, true, false, not, ◌&&◌, ◌==◌, ◌⊎◌, if◌then◌else◌, min, max, List, length, length-set, take, get_or, set, Option, Some, None, option_map, inl, inr, refl, sym, ap, ◌∙◌, subst, arith}
use Rattle.std.proofs.lemmas.Bool.{both_ways, cases_eq, cases_lt, cond-true, cond-false, eq-eqb, eqb-true, le-leb, lt-leb, ne_eqb}
use Rattle.std.proofs.lemmas.Bool.Decides.{nat_tests}
use Rattle.std.proofs.lemmas.List.{get_or_default, get_or_past, get_or-set_other, get_or-set_same, get_or-take, length-take-le}
use Rattle.std.proofs.lemmas.Option.{none-some}
use Rattle.std.proofs.lemmas.Nat.Bits.{bit_at-lt, bit_at_and, bit_at_ones, bit_at_ones_above, bit_at_or, ones_shr}
use Rattle.std.specs.Int.{bit_at}
use Rattle.std.specs.List.{All}
use Rattle.std.specs.Int.RustNames.{bit_or}
use lib.Bits.{bit_and}
use Rattle.i3c_base.specs.declared.range.TheConstants.{SLOTS}
use Rattle.i3c_base.specs.Cutting.{CutList, Lost, cut_of, is_by, lost_by}
use Rattle.i3c_base.specs.State.{Device, Population, device_in, in_slot}
use Rattle.i3c_base.specs.Frames.{reaches_at, written_at}
use Rattle.i3c_device.specs.declared.slot_set.SlotSet.{SlotSet}
use Rattle.i3c_device.specs.Reading.{AreBytesOf, Driving, IsByteFrom, IsByteOf, IsDrivenFrom, PullsLow, SomeZero, has_zero}
use Rattle.i3c_device.specs.Sets.{has}
use Rattle.i3c_device.specs.Walks.{AreReached}
use Rattle.i3c_device.proofs.Targets.{reached_target, target_reached}

-- a device that drives nothing any more: ones
pub driven_gone : (own bit start : ℕ) → bit ≤ start → IsDrivenFrom own (Some bit) start 255
driven_gone own bit start early j l =
    bit_at_ones 8 (7 - j) (omega arith) ∙ sym (cond-true (is_by (start + j) (Some bit)) 1 (bit_at own (7 - j)) (le-leb bit (start + j) (omega arith)))

max_one : (b : ℕ) → b < 2 → max b 1 ≡ 1
max_one b l = grind (arith, nat_tests)

max_zero : (b : ℕ) → max b 0 ≡ b
max_zero b = grind (arith, nat_tests)

ones_after : (own n k : ℕ) → k < 8 → n ≤ k → bit_at (bit_or own (255 / 2 ^ n)) (7 - k) ≡ 1
ones_after own n k m l =
    let ones : bit_at (255 / 2 ^ n) (7 - k) ≡ 1 = ap (λ x. bit_at x (7 - k)) (ones_shr 8 n (omega arith)) ∙ bit_at_ones (8 - n) (7 - k) (omega arith) in
    bit_at_or own (255 / 2 ^ n) (7 - k) ∙ (ap (max (bit_at own (7 - k))) ones ∙ max_one (bit_at own (7 - k)) (bit_at-lt own (7 - k)))

own_before : (own n k : ℕ) → n ≤ 8 → k < n → bit_at (bit_or own (255 / 2 ^ n)) (7 - k) ≡ bit_at own (7 - k)
own_before own n k m l =
    let none : bit_at (255 / 2 ^ n) (7 - k) ≡ 0 = ap (λ x. bit_at x (7 - k)) (ones_shr 8 n m) ∙ bit_at_ones_above (8 - n) (7 - k) (omega arith) in
    bit_at_or own (255 / 2 ^ n) (7 - k) ∙ (ap (max (bit_at own (7 - k))) none ∙ max_zero (bit_at own (7 - k)))

-- one that is cut inside its byte, after n of its bits
pub driven_part : (own bit start n : ℕ) → start + n ≡ bit → n < 8 → IsDrivenFrom own (Some bit) start (bit_or own (255 / 2 ^ n))
driven_part own bit start n at few j l = elim (cases_lt j n) [
  | inl before ↦ own_before own n j (omega arith) before ∙ sym (cond-false (is_by (start + j) (Some bit)) 1 (bit_at own (7 - j)) (lt-leb bit (start + j) (omega arith)))
  | inr after ↦ ones_after own n j l after ∙ sym (cond-true (is_by (start + j) (Some bit)) 1 (bit_at own (7 - j)) (le-leb bit (start + j) (omega arith)))
]

pub byte_from_none : (own : Driving) (k start : ℕ) (cut : Option ℕ) → IsByteFrom own None k cut start 255
byte_from_none own k start cut j l = bit_at_ones 8 (7 - j) (omega arith) ∙ go (is_by (start + j) cut)
  where
    go : (b : Bool) → ◌≡◌ {A = ℕ} 1 (if not b && false then 0 else 1)
    go true = refl
    go false = refl

-- slot i is taken out of a set
abbrev TakesOut : ℕ → SlotSet → SlotSet → Type 0
TakesOut i left next = (s : ℕ) → s < SLOTS → has next s ≡ (if s == i then false else has left s)

-- one of the slots that aren't left isn't lost, and has 0 there
abbrev pub SomeZeroSoFar : Driving → SlotSet → SlotSet → Lost → ℕ → ℕ → List (Option Device) → Type 0
SomeZeroSoFar own among left lost k bit devices = (s : ℕ) × (s < SLOTS) × (has among s ≡ true) × (has left s ≡ false) × (lost s ≡ false) × (has_zero own k bit (get_or devices s None) ≡ true)

-- the lines' byte, of the slots that aren't left
pub record ByteSoFar (own : Driving) (among left : SlotSet) (k : ℕ) (cuts : CutList) (start : ℕ) (devices : List (Option Device)) (byte : ℕ) : Type 0 where
  pub among_them : (s : ℕ) → s < SLOTS → has left s ≡ true → has among s ≡ true
  pub bits : (j : ℕ) → j < 8 → (bit_at byte (7 - j) ≡ 0) ↔ SomeZeroSoFar own among left (lost_by cuts (start + j)) k (7 - j) devices

pub byte_none : (own : Driving) (among : SlotSet) (k : ℕ) (cuts : CutList) (start : ℕ) (devices : List (Option Device)) → ByteSoFar own among among k cuts start devices 255
byte_none own among k cuts start devices = record {
  among_them = λ s l h. h;
  bits = λ j l. (
    λ z. let ones = bit_at_ones 8 (7 - j) (omega arith) in absurd (omega (arith, z, ones)),
    λ some. absurd (both_ways (has among some.0) some.3 some.2),
  );
}

min_of : (a b : ℕ) → min a b ≡ 0 → (a ≡ 0) ⊎ (b ≡ 0)
min_of a b e = elim (cases_lt a b) [ inl l ↦ inl (grind (arith, nat_tests)) | inr l ↦ inr (grind (arith, nat_tests)) ]

min_left : (a b : ℕ) → a ≡ 0 → min a b ≡ 0
min_left a b e = grind (arith, nat_tests)

min_right : (a b : ℕ) → b ≡ 0 → min a b ≡ 0
min_right a b e = grind (arith, nat_tests)

-- a slot drives a 0 where it isn't lost and has one
drove : (gone zero : Bool) → ◌≡◌ {A = ℕ} (if not gone && zero then 0 else 1) 0 → (gone ≡ false) × (zero ≡ true)
drove true zero e = absurd (omega (arith, e))
drove false true e = (refl, refl)
drove false false e = absurd (omega (arith, e))

drives_zero : (gone zero : Bool) → gone ≡ false → zero ≡ true → ◌≡◌ {A = ℕ} (if not gone && zero then 0 else 1) 0
drives_zero true zero g z = absurd (both_ways _ g refl)
drives_zero false true g z = refl
drives_zero false false g z = absurd (both_ways _ refl z)

pub byte_more : (own : Driving) (among left next : SlotSet) (k : ℕ) (cuts : CutList) (start : ℕ) (devices : List (Option Device)) (byte i driven : ℕ) → ByteSoFar own among left k cuts start devices byte
    → i < SLOTS → has left i ≡ true → TakesOut i left next → IsByteFrom own (get_or devices i None) k (cut_of cuts i) start driven → ByteSoFar own among next k cuts start devices (bit_and byte driven)
byte_more own among left next k cuts start devices byte i driven h low there out is = record {
  among_them = λ s l t. h.among_them s l (still s l t);
  bits = λ j l. (
    λ z. elim (min_of (bit_at byte (7 - j)) (bit_at driven (7 - j)) (sym (bit_at_and byte driven (7 - j)) ∙ z)) [
      | inl zero ↦ let old = (h.bits j l).0 zero in (old.0, old.1, old.2, taken old.0 old.1 old.3, old.4, old.5)
      | inr zero ↦ let d = drove (is_by (start + j) (cut_of cuts i)) (has_zero own k (7 - j) (get_or devices i None)) (sym (is j l) ∙ zero) in (i, low, h.among_them i low there, out i low ∙ cond-true (i == i) false (has left i) (eq-eqb i i refl), d.0, d.1)
    ],
    λ some. bit_at_and byte driven (7 - j) ∙ elim (cases_eq some.0 i) [
      | inl e ↦ min_right (bit_at byte (7 - j)) (bit_at driven (7 - j)) (is j l ∙ drives_zero (is_by (start + j) (cut_of cuts i)) (has_zero own k (7 - j) (get_or devices i None))
          (subst (λ s. lost_by cuts (start + j) s ≡ false) e some.4) (subst (λ s. has_zero own k (7 - j) (get_or devices s None) ≡ true) e some.5))
      | inr ne ↦ min_left (bit_at byte (7 - j)) (bit_at driven (7 - j)) ((h.bits j l).1 (some.0, some.1, some.2, sym (out some.0 some.1 ∙ cond-false (some.0 == i) false (has left some.0) (ne_eqb some.0 i ne)) ∙ some.3, some.4, some.5))
    ],
  );
}
  where
    still : (s : ℕ) → s < SLOTS → has next s ≡ true → has left s ≡ true
    still s l t = elim (cases_eq s i) [
      | inl e ↦ absurd (both_ways _ (out s l ∙ cond-true (s == i) false (has left s) (eq-eqb s i e)) t)
      | inr ne ↦ sym (out s l ∙ cond-false (s == i) false (has left s) (ne_eqb s i ne)) ∙ t
    ]

    taken : (s : ℕ) → s < SLOTS → has left s ≡ false → has next s ≡ false
    taken s l n = elim (cases_eq s i) [
      | inl e ↦ out s l ∙ cond-true (s == i) false (has left s) (eq-eqb s i e)
      | inr ne ↦ out s l ∙ (cond-false (s == i) false (has left s) (ne_eqb s i ne) ∙ n)
    ]

-- one empty slot more
pub byte_same : (own : Driving) (among left next : SlotSet) (k : ℕ) (cuts : CutList) (start : ℕ) (devices : List (Option Device)) (byte i : ℕ) → ByteSoFar own among left k cuts start devices byte
    → TakesOut i left next → get_or devices i None ≡ None → ByteSoFar own among next k cuts start devices byte
byte_same own among left next k cuts start devices byte i h out none = record {
  among_them = λ s l t. h.among_them s l (still s l t);
  bits = λ j l. (
    λ z. let old = (h.bits j l).0 z in (old.0, old.1, old.2, taken old.0 old.1 old.3, old.4, old.5),
    λ some. (h.bits j l).1 (
      some.0,
      some.1,
      some.2,
      elim (cases_eq some.0 i) [
        | inl e ↦ absurd (both_ways _ (ap (has_zero own k (7 - j)) (ap (λ s. get_or devices s None) e ∙ none)) some.5)
        | inr ne ↦ sym (out some.0 some.1 ∙ cond-false (some.0 == i) false (has left some.0) (ne_eqb some.0 i ne)) ∙ some.3
      ],
      some.4,
      some.5,
    ),
  );
}
  where
    still : (s : ℕ) → s < SLOTS → has next s ≡ true → has left s ≡ true
    still s l t = elim (cases_eq s i) [
      | inl e ↦ absurd (both_ways _ (out s l ∙ cond-true (s == i) false (has left s) (eq-eqb s i e)) t)
      | inr ne ↦ sym (out s l ∙ cond-false (s == i) false (has left s) (ne_eqb s i ne)) ∙ t
    ]

    taken : (s : ℕ) → s < SLOTS → has left s ≡ false → has next s ≡ false
    taken s l n = elim (cases_eq s i) [
      | inl e ↦ out s l ∙ cond-true (s == i) false (has left s) (eq-eqb s i e)
      | inr ne ↦ out s l ∙ (cond-false (s == i) false (has left s) (ne_eqb s i ne) ∙ n)
    ]

pub byte_all : (own : Driving) (among left : SlotSet) (k : ℕ) (cuts : CutList) (start : ℕ) (devices : List (Option Device)) (byte : ℕ) → ByteSoFar own among left k cuts start devices byte
    → ((s : ℕ) → s < SLOTS → has left s ≡ false) → IsByteOf own among k cuts start devices byte
byte_all own among left k cuts start devices byte h none j l = (
  λ z. let some = (h.bits j l).0 z in (some.0, some.1, some.2, some.4, some.5),
  λ some. (h.bits j l).1 (some.0, some.1, some.2, none some.0 some.1, some.3, some.4),
)

-- a device at the address with a 0 there pulls low
zero_in : (own : Driving) (k bit : ℕ) (o : Option Device) → has_zero own k bit o ≡ true → (d : Device) × (o ≡ Some d) × (bit_at (get_or (own d) k 0) bit ≡ 0)
zero_in own k bit None e = absurd (both_ways _ refl e)
zero_in own k bit (Some d) e = (d, refl, eqb-true (bit_at (get_or (own d) k 0) bit) 0 e)

pulls_low : (own : Driving) (all : Population) (a : ℕ) (slots : SlotSet) (lost : Lost) (k bit : ℕ) → AreReached all.active (Some a) slots all.devices → SomeZero own slots lost k bit all.devices → PullsLow own all a lost k bit
pulls_low own all a slots lost k bit are some =
    let zero = zero_in own k bit (device_in all some.0) some.4 in
    (some.0, zero.0, reached_target all a some.0 zero.0 zero.1 (sym (ap (in_slot (reaches_at all.active (Some a) some.0)) zero.1) ∙ (sym (are some.0 some.1) ∙ some.2)), some.3, zero.2)

low_pulled : (own : Driving) (all : Population) (a : ℕ) (slots : SlotSet) (lost : Lost) (k bit : ℕ) → length all.devices ≡ SLOTS → AreReached all.active (Some a) slots all.devices → PullsLow own all a lost k bit → SomeZero own slots lost k bit all.devices
low_pulled own all a slots lost k bit long are low =
    let s = low.0 in
    let there = low.2.0 in
    let l : s < SLOTS = elim (cases_lt s SLOTS) [ inl l ↦ l | inr past ↦ absurd (none-some low.1 (sym (get_or_past all.devices s None (omega (arith, long))) ∙ there)) ] in
    (s, l, are s l ∙ (ap (in_slot (reaches_at all.active (Some a) s)) there ∙ target_reached all a s low.1 low.2), low.3, ap (has_zero own k bit) there ∙ eq-eqb (bit_at (get_or (own low.1) k 0) bit) 0 low.4)

-- a byte as devices at the address drive it
pub byte_read : (own : Driving) (all : Population) (a : ℕ) (slots : SlotSet) (cuts : CutList) (start k byte : ℕ) → length all.devices ≡ SLOTS → AreReached all.active (Some a) slots all.devices → IsByteOf own slots k cuts start all.devices byte
    → (j : ℕ) → j < 8 → (bit_at byte (7 - j) ≡ 0) ↔ PullsLow own all a (lost_by cuts (start + j)) k (7 - j)
byte_read own all a slots cuts start k byte long are is j l = (
  λ z. pulls_low own all a slots (lost_by cuts (start + j)) k (7 - j) are ((is j l).0 z),
  λ low. (is j l).1 (low_pulled own all a slots (lost_by cuts (start + j)) k (7 - j) long are low),
)

-- the bytes so far, of `most` at most
pub record ReadSoFar (own : Driving) (most : ℕ) (slots : SlotSet) (cuts : CutList) (first : ℕ) (devices : List (Option Device)) (n : ℕ) (bytes : List ℕ) : Type 0 where
  pub long : length bytes ≡ most
  pub read : (k : ℕ) → k < n → IsByteOf own slots k cuts (first + 9 * k) devices (get_or bytes k 0)
  pub small : (k : ℕ) → k < n → get_or bytes k 0 < 256

pub read_more : (own : Driving) (most : ℕ) (slots : SlotSet) (cuts : CutList) (first : ℕ) (devices : List (Option Device)) (n byte : ℕ) (bytes : List ℕ) → n < most → byte < 256
    → ReadSoFar own most slots cuts first devices n bytes → IsByteOf own slots n cuts (first + 9 * n) devices byte → ReadSoFar own most slots cuts first devices (n + 1) (set bytes n byte)
read_more own most slots cuts first devices n byte bytes low fits h is = record {
  long = length-set bytes n byte ∙ h.long;
  small = λ k l. elim (cases_eq k n) [
    | inl e ↦ subst (λ m. get_or (set bytes n byte) m 0 < 256) (sym e) (subst (λ v. v < 256) (sym (get_or-set_same bytes n byte 0 (omega (arith, h.long)))) fits)
    | inr ne ↦ subst (λ v. v < 256) (sym (get_or-set_other bytes n k byte 0 ne)) (h.small k (omega arith))
  ];
  read = λ k l. elim (cases_eq k n) [
    | inl e ↦ subst (λ m. IsByteOf own slots m cuts (first + 9 * m) devices (get_or (set bytes n byte) m 0)) (sym e)
        (subst (IsByteOf own slots n cuts (first + 9 * n) devices) (sym (get_or-set_same bytes n byte 0 (omega (arith, h.long)))) is)
    | inr ne ↦ subst (IsByteOf own slots k cuts (first + 9 * k) devices) (sym (get_or-set_other bytes n k byte 0 ne)) (h.read k (omega arith))
  ];
}

pub read_all : (own : Driving) (most : ℕ) (all : Population) (a : ℕ) (slots : SlotSet) (cuts : CutList) (first n : ℕ) (bytes : List ℕ) → length all.devices ≡ SLOTS → AreReached all.active (Some a) slots all.devices → most ≤ n
    → ReadSoFar own most slots cuts first all.devices n bytes → AreBytesOf own most all a cuts first bytes
read_all own most all a slots cuts first n bytes long are past h k j l m = byte_read own all a slots cuts (first + 9 * k) k (get_or bytes k 0) long are (h.read k (omega arith)) j m

pub read_small : (own : Driving) (most : ℕ) (slots : SlotSet) (cuts : CutList) (first : ℕ) (devices : List (Option Device)) (n : ℕ) (bytes : List ℕ) → most ≤ n
    → ReadSoFar own most slots cuts first devices n bytes → All (λ byte. byte < 256) bytes
read_small own most slots cuts first devices n bytes past h k d l = subst (λ v. v < 256) (get_or_default bytes k 0 d l) (h.small k (omega (arith, h.long)))

-- `count` of them, if there is room for more
pub read_counted : (own : Driving) (most count : ℕ) (all : Population) (a : ℕ) (slots : SlotSet) (cuts : CutList) (first n : ℕ) (bytes : List ℕ) → length all.devices ≡ SLOTS → AreReached all.active (Some a) slots all.devices
    → count ≤ n → count ≤ most → ReadSoFar own most slots cuts first all.devices n bytes → AreBytesOf own (length (take count bytes)) all a cuts first (take count bytes)
read_counted own most count all a slots cuts first n bytes long are past few h k j l m =
    let counted : length (take count bytes) ≡ count = length-take-le count bytes (omega (arith, few, h.long)) in
    let low : k < count = omega (arith, counted, l) in
    subst (λ b. (bit_at b (7 - j) ≡ 0) ↔ PullsLow own all a (lost_by cuts (first + 9 * k + j)) k (7 - j)) (sym (get_or-take count bytes k 0 low))
    (byte_read own all a slots cuts (first + 9 * k) k (get_or bytes k 0) long are (h.read k (omega arith)) j m)

pub small_counted : (own : Driving) (most count : ℕ) (slots : SlotSet) (cuts : CutList) (first : ℕ) (devices : List (Option Device)) (n : ℕ) (bytes : List ℕ) → count ≤ n → count ≤ most
    → ReadSoFar own most slots cuts first devices n bytes → All (λ byte. byte < 256) (take count bytes)
small_counted own most count slots cuts first devices n bytes past few h k d l =
    let counted : length (take count bytes) ≡ count = length-take-le count bytes (omega (arith, few, h.long)) in
    let low : k < count = omega (arith, counted, l) in
    subst (λ v. v < 256) (sym (get_or-take count bytes k 0 low) ∙ get_or_default (take count bytes) k 0 d l) (h.small k (omega arith))

-- a write changes nobody where there is none
pub write_spares : (active a : ℕ) (bytes : List ℕ) (s : ℕ) (o : Option Device) → in_slot (λ d. true) o ≡ false → option_map (written_at active a bytes s) o ≡ o
write_spares active a bytes s None e = refl
write_spares active a bytes s (Some d) e = absurd (both_ways _ e refl)
