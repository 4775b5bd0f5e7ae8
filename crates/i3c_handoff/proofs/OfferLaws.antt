-- The device that would take the offered role, and the byte read of devices that don't end theirs.
use Rattle.std.proofs.Common.{◌≡◌, ℕ, ◌+◌, ◌-◌, ◌/◌, ◌^◌, ◌<◌, ◌≤◌, max, List, Option, inl, inr, refl, sym, ap, ◌∙◌, subst, arith}
use Rattle.std.proofs.lemmas.Bool.{both_ways, cases_lt}
use Rattle.std.proofs.lemmas.Bool.Decides.{nat_tests}
use Rattle.std.proofs.lemmas.Nat.{or_of_8, shr_le}
use Rattle.std.proofs.lemmas.Nat.Bits.{bit_at-lt, bit_at_ones, bit_at_ones_above, bit_at_or, ones_shr}
use Rattle.std.specs.Int.{bit_at}
use Rattle.std.specs.Int.RustNames.{bit_or}
use Rattle.i3c_base.specs.Cutting.{CutList, Lost, lost_by}
use Rattle.i3c_base.specs.State.{Device, HasDevices, State, with_active}
use Rattle.i3c_base.specs.Frames.{AreWillingLost, IsWillingIn, IsLowestWilling}
use Rattle.i3c_base.proofs.Lookups.{population_is}
use Rattle.i3c_base.proofs.LostLaws.{left_before}
use Rattle.i3c_word.specs.Parity.{IsAddressByte}
use Rattle.i3c_handoff.specs.Offers.{IsTornByte, SomeTakes}

-- the lowest of the devices that would take the role and aren't lost
pub some_takes : (st : State) (a : ℕ) (lost : Lost) (devices : List (Option Device)) (active s : ℕ) → HasDevices st devices active → IsLowestWilling (with_active devices active) a lost s → SomeTakes st a lost
some_takes st a lost devices active s has h = (s, subst (λ all. IsWillingIn all a s) (sym (population_is st devices active has)) h.0, h.1)

-- nobody is left where each is lost
pub none_takes : (st : State) (a : ℕ) (lost : Lost) (devices : List (Option Device)) (active : ℕ) → HasDevices st devices active → AreWillingLost (with_active devices active) a lost → ¬ SomeTakes st a lost
none_takes st a lost devices active has h some = both_ways _ some.2 (subst (λ all. AreWillingLost all a lost) (sym (population_is st devices active has)) h some.0 some.1)

-- a device that is left at a later bit was left before
pub takes_before : (st : State) (a : ℕ) (cuts : CutList) (first last : ℕ) → first ≤ last → SomeTakes st a (lost_by cuts last) → SomeTakes st a (lost_by cuts first)
takes_before st a cuts first last l some = (some.0, some.1, left_before cuts first last some.0 l some.2)

-- the bits of a byte from bit j of the wire on, where it reads ones, and before it
max_one : (b : ℕ) → b < 2 → max b 1 ≡ 1
max_one b l = grind (arith, nat_tests)

max_zero : (b : ℕ) → max b 0 ≡ b
max_zero b = grind (arith, nat_tests)

ones_after : (own j k : ℕ) → k < 8 → j ≤ k → bit_at (bit_or own (255 / 2 ^ j)) (7 - k) ≡ 1
ones_after own j k m l =
    let ones : bit_at (255 / 2 ^ j) (7 - k) ≡ 1 = ap (λ n. bit_at n (7 - k)) (ones_shr 8 j (omega arith)) ∙ bit_at_ones (8 - j) (7 - k) (omega arith) in
    bit_at_or own (255 / 2 ^ j) (7 - k) ∙ (ap (max (bit_at own (7 - k))) ones ∙ max_one (bit_at own (7 - k)) (bit_at-lt own (7 - k)))

own_before : (own j k : ℕ) → j ≤ 8 → k < j → bit_at (bit_or own (255 / 2 ^ j)) (7 - k) ≡ bit_at own (7 - k)
own_before own j k m l =
    let none : bit_at (255 / 2 ^ j) (7 - k) ≡ 0 = ap (λ n. bit_at n (7 - k)) (ones_shr 8 j m) ∙ bit_at_ones_above (8 - j) (7 - k) (omega arith) in
    bit_at_or own (255 / 2 ^ j) (7 - k) ∙ (ap (max (bit_at own (7 - k))) none ∙ max_zero (bit_at own (7 - k)))

-- somebody is left to drive each of the bits below n
abbrev pub Driven : State → ℕ → CutList → ℕ → ℕ → Type 0
Driven st a cuts first n = (k : ℕ) → k < n → SomeTakes st a (lost_by cuts (first + k))

-- the byte that is read where somebody is left for each bit below j, and nobody for bit j
pub torn_at : (st : State) (a : ℕ) (cuts : CutList) (first own j : ℕ) → IsAddressByte a own → own < 256 → j < 8 → Driven st a cuts first j → ¬ SomeTakes st a (lost_by cuts (first + j))
    → IsTornByte st a cuts first (bit_or own (255 / 2 ^ j))
torn_at st a cuts first own j is small low left gone = (
  own,
  is,
  or_of_8 own (255 / 2 ^ j) small (omega (arith, shr_le 255 j)),
  λ k m some. elim (cases_lt k j) [ inl l ↦ own_before own j k (omega arith) l | inr l ↦ absurd (gone (takes_before st a cuts (first + j) (first + k) (omega arith) some)) ],
  λ k m none. elim (cases_lt k j) [ inl l ↦ absurd (none (left k l)) | inr l ↦ ones_after own j k m l ],
)

-- and where somebody is left for each of the eight
pub torn_last : (st : State) (a : ℕ) (cuts : CutList) (first own : ℕ) → IsAddressByte a own → own < 256 → Driven st a cuts first 8 → IsTornByte st a cuts first own
torn_last st a cuts first own is small left = (own, is, small, λ k m some. refl, λ k m none. absurd (none (left k m)))
