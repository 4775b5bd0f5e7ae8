-- Sets of slots and the bits that stand for them.
use Rattle.std.proofs.Common.{◌≡◌, ℕ, ◌-◌, ◌*◌, ◌%◌, ◌^◌, ◌<◌, ◌≤◌, ◌↔◌, ◌⊎◌, Bool, IsTrue, true, false, not, ◌&&◌, ◌==◌, Option, Some, None, is_some, refl, if◌then◌else◌, inl, inr, sym, ap, ◌∙◌, subst, arith}
use Rattle.std.proofs.lemmas.Bool.{cases_eq, cases_lt, cond-true, cond-false, eq-eqb, false≢true, ne_eqb}
use Rattle.std.proofs.lemmas.Nat.{and_le_l}
use Rattle.std.proofs.lemmas.Nat.Bits.{bit_at-lt, bit_at-trailing_zeros, bit_at-zero, bit_at_and, bit_at_clear_other, bit_at_clear_same, bit_at_ones, bit_at_ones_above, bit_at_set_other, bit_at_set_same, same_from_bits}
use Rattle.std.proofs.Math.Nat.{mod-eq_of_lt}
use Rattle.std.specs.Int.{bit_at, bit_not, trailing_zeros, w64}
use Rattle.std.specs.Int.RustNames.{bit_or}
use lib.Bits.{bit_and}
use Rattle.i3c_base.specs.declared.range.TheConstants.{SLOTS}
use Rattle.i3c_base.specs.Cutting.{CutList, cut_of, is_by, lost_by}
use Rattle.i3c_device.specs.declared.slot_set.SlotSet.{SlotSet}
use Rattle.i3c_device.specs.Sets.{AreUncut, IsNone, has}

-- a set with one slot more, and one with one slot less
abbrev pub less : ℕ → ℕ → ℕ
less n k = bit_and n (bit_not w64 (1 * 2 ^ k % 2 ^ 64))

pub put_in : (n k s : ℕ) → k < 64 → (bit_at (bit_or n (1 * 2 ^ k % 2 ^ 64)) s == 1) ≡ (if s == k then true else bit_at n s == 1)
put_in n k s l = elim (cases_eq s k) [
  | inl e ↦ ap (λ j. bit_at (bit_or n (1 * 2 ^ k % 2 ^ 64)) j == 1) e ∙ (ap (λ b. b == 1) (bit_at_set_same w64 n k l) ∙ sym (cond-true (s == k) true (bit_at n s == 1) (eq-eqb s k e)))
  | inr ne ↦ ap (λ b. b == 1) (bit_at_set_other w64 n k l s ne) ∙ sym (cond-false (s == k) true (bit_at n s == 1) (ne_eqb s k ne))
]

pub put_out : (n k s : ℕ) → k < 64 → s < 64 → (bit_at (less n k) s == 1) ≡ (if s == k then false else bit_at n s == 1)
put_out n k s l m = elim (cases_eq s k) [
  | inl e ↦ ap (λ j. bit_at (less n k) j == 1) e ∙ (ap (λ b. b == 1) (bit_at_clear_same w64 n k l) ∙ sym (cond-true (s == k) false (bit_at n s == 1) (eq-eqb s k e)))
  | inr ne ↦ ap (λ b. b == 1) (bit_at_clear_other w64 n k l s m ne) ∙ sym (cond-false (s == k) false (bit_at n s == 1) (ne_eqb s k ne))
]

-- which is a smaller number
pub put_out_less : (n k : ℕ) → k < 64 → bit_at n k ≡ 1 → less n k < n
put_out_less n k l h = elim (cases_eq (less n k) n) [
  | inl e ↦ let gone : bit_at n k ≡ 0 = subst (λ m. bit_at m k ≡ 0) e (bit_at_clear_same w64 n k l) in absurd (omega (arith, gone, h))
  | inr ne ↦ omega (arith, ne, and_le_l n (bit_not w64 (1 * 2 ^ k % 2 ^ 64)))
]

-- the first c bits of a number: one of them is set, or none is
first_bit : (n c s : ℕ) → s < c → bit_at (bit_and n (2 ^ c - 1)) s ≡ bit_at n s
first_bit n c s l = bit_at_and n (2 ^ c - 1) s ∙ omega (arith, bit_at_ones c s l, bit_at-lt n s)

pub none_first : (n c s : ℕ) → bit_and n (2 ^ c - 1) ≡ 0 → s < c → bit_at n s ≡ 0
none_first n c s none l = sym (first_bit n c s l) ∙ (ap (λ m. bit_at m s) none ∙ bit_at-zero s)

-- slot k is the lowest of the first c in a set
abbrev pub IsLowest : ℕ → ℕ → ℕ → Type 0
IsLowest n c k = (k < c) × (bit_at n k ≡ 1) × ((i : ℕ) → i < k → bit_at n i ≡ 0)

-- the lowest slot of a set that has one of the first c
pub lowest_in : (n c : ℕ) → n < 2 ^ 64 → (bit_and n (2 ^ c - 1) ≡ 0 → ⊥) → IsLowest n c (trailing_zeros w64 n % c)
lowest_in n c fits some =
    let least = bit_at-trailing_zeros w64 n (omega (arith, positive)) fits in
    let low : trailing_zeros w64 n < c =
    elim (cases_lt (trailing_zeros w64 n) c) [ inl l ↦ l | inr past ↦ absurd (some (same_from_bits (bit_and n (2 ^ c - 1)) 0 (λ i. no_bit least.2 past i (cases_lt i c) ∙ sym (bit_at-zero i)))) ] in
    subst (IsLowest n c) (sym (mod-eq_of_lt low)) (low, least.1, least.2)
  where
    positive : 0 < n
    positive = elim (cases_eq n 0) [ inl e ↦ absurd (some (ap (λ m. bit_and m (2 ^ c - 1)) e)) | inr ne ↦ omega (arith, ne) ]

    no_bit : ((i : ℕ) → i < trailing_zeros w64 n → bit_at n i ≡ 0) → c ≤ trailing_zeros w64 n → (i : ℕ) → (i < c) ⊎ (c ≤ i) → bit_at (bit_and n (2 ^ c - 1)) i ≡ 0
    no_bit below past i (inl l) = first_bit n c i l ∙ below i (omega (arith, l, past))
    no_bit below past i (inr high) = bit_at_and n (2 ^ c - 1) i ∙ omega (arith, bit_at_ones_above c i high)

-- a set is uncut where none of its slots is among those that are cut
pub uncut_none : (slots cut both : SlotSet) (cuts : CutList) (b : Bool) → ((s : ℕ) → s < SLOTS → has cut s ≡ is_some (cut_of cuts s)) → ((s : ℕ) → s < SLOTS → has both s ≡ (has slots s && has cut s)) → IsTrue b ↔ IsNone both
    → IsTrue b ↔ AreUncut slots cuts
uncut_none slots cut both cuts b names and is = (
  λ t s l held. none_of (cut_of cuts s) (sym (names s l) ∙ other_out (has slots s) (has cut s) held (sym (and s l) ∙ is.0 t s l)),
  λ uncut. is.1 (λ s l. and s l ∙ not_both (has slots s) (has cut s) (λ held. names s l ∙ ap is_some (uncut s l held))),
)
  where
    none_of : (cut : Option ℕ) → is_some cut ≡ false → cut ≡ None
    none_of None h = refl
    none_of (Some bit) h = absurd (false≢true (sym h))

    other_out : (a b : Bool) → a ≡ true → (a && b) ≡ false → b ≡ false
    other_out true b held h = h
    other_out false b held h = absurd (false≢true held)

    not_both : (a b : Bool) → (a ≡ true → b ≡ false) → (a && b) ≡ false
    not_both true b h = h refl
    not_both false b h = refl

-- and then none of its slots is lost
pub uncut_left : (slots : SlotSet) (cuts : CutList) (last s : ℕ) → AreUncut slots cuts → s < SLOTS → has slots s ≡ (has slots s && not (lost_by cuts last s))
uncut_left slots cuts last s uncut l = go (has slots s) (λ held. ap (λ cut. not (is_by last cut)) (uncut s l held))
  where
    go : (a : Bool) → (a ≡ true → not (lost_by cuts last s) ≡ true) → a ≡ (a && not (lost_by cuts last s))
    go true h = sym (h refl)
    go false h = refl
