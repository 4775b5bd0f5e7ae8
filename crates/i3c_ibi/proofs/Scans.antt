-- The scans over the devices.
use Rattle.std.proofs.lemmas.Bool.{both_ways, cases_eq, cond-true, eq-eqb}
use Rattle.std.proofs.lemmas.Option.{none-some, same_Some}
use Rattle.std.specs.Int.{bit_at}
use Rattle.std.specs.Int.Bits.{bit_and}
use Rattle.std.proofs.Common.{◌≡◌, ℕ, ◌<◌, ◌↔◌, ◌⊎◌, ◌==◌, ◌&&◌, not, Bool, true, false, if◌then◌else◌, List, Option, Some, None, option_map, inl, inr, sym, refl, ap, ◌∙◌, subst}
use Rattle.i3c_base.proofs.BitLaws.{bits_both, both_bits}
use Rattle.i3c_base.proofs.Lookups.{population_is}
use Rattle.i3c_base.specs.declared.range.TheConstants.{SLOTS}
use Rattle.i3c_base.specs.declared.requests.Request.{Request}
use Rattle.i3c_base.specs.Cutting.{CutList, cut_of}
use Rattle.i3c_base.specs.State.{Device, HasDevices, State, population, with_active}
use Rattle.i3c_base.specs.Serve.{IsFirst, IsFirstIn}
use Rattle.i3c_device.specs.declared.slot_set.SlotSet.{SlotSet}
use Rattle.i3c_device.specs.Sets.{has}
use Rattle.i3c_device.specs.Walks.{AreDrivers, IsFirstDriven}
use Rattle.i3c_device.proofs.FindLaws.{TakesOut, not_taken, still_in}
use Rattle.i3c_ibi.specs.Driving.{Together, byte_beside, driven, slot_byte}

-- the first of the requests that the devices drive is the first on a bus with these devices
pub first_on : (st : State) (devices : List (Option Device)) (active : ℕ) (r : Request) (drivers : SlotSet) → HasDevices st devices active → IsFirstDriven (with_active devices active) (r, drivers) → IsFirst st r
first_on st devices active r drivers has first = subst (λ all. IsFirstIn all r) (sym (population_is st devices active has)) first.comes_first

pub drivers_on : (st : State) (devices : List (Option Device)) (active : ℕ) (r : Request) (drivers : SlotSet) → HasDevices st devices active → AreDrivers (with_active devices active) r drivers → AreDrivers (population st) r drivers
drivers_on st devices active r drivers has are = subst (λ all. AreDrivers all r drivers) (sym (population_is st devices active has)) are

-- `both` is the AND of `own` and the bytes of the slots that aren't left
pub record TogetherSoFar (bytes : ℕ → Option ℕ) (own : ℕ) (left : SlotSet) (both : ℕ) : Type 0 where
  pub bits : (bit : ℕ) → bit < 8 → ((bit_at both bit ≡ 1) ↔ ((bit_at own bit ≡ 1) × ((s v : ℕ) → s < SLOTS → has left s ≡ false → bytes s ≡ Some v → bit_at v bit ≡ 1)))
  pub alone : ((s : ℕ) → s < SLOTS → has left s ≡ false → bytes s ≡ None) → both ≡ own

-- a slot that isn't left any more
gone : (left next : SlotSet) (i s : ℕ) → TakesOut i left next → i < SLOTS → s ≡ i → has next s ≡ false
gone left next i s out low e = ap (has next) e ∙ (out i low ∙ cond-true (i == i) false (has left i) (eq-eqb i i (λ t. i)))

-- whichever slot isn't left after it is this one, or wasn't left before
before : (left next : SlotSet) (i s : ℕ) → TakesOut i left next → s < SLOTS → has next s ≡ false → (s ≡ i) ⊎ (has left s ≡ false)
before left next i s out l n = elim (cases_eq s i) [ inl e ↦ inl e | inr ne ↦ inr (sym (still_in i left next out s l ne) ∙ n) ]

-- which of them was left before, and is still gone
after : (left next : SlotSet) (i s : ℕ) → TakesOut i left next → i < SLOTS → s < SLOTS → has left s ≡ false → has next s ≡ false
after left next i s out low l n = elim (cases_eq s i) [ inl e ↦ gone left next i s out low e | inr ne ↦ still_in i left next out s l ne ∙ n ]

pub together_skip : (bytes : ℕ → Option ℕ) (own i both : ℕ) (left next : SlotSet) → TogetherSoFar bytes own left both → i < SLOTS → TakesOut i left next → bytes i ≡ None → TogetherSoFar bytes own next both
together_skip bytes own i both left next h low out none = record {
  bits = λ bit l. (
    λ b. let k = (h.bits bit l).0 b in
        (k.0, λ s v m n e. elim (before left next i s out m n) [ inl same ↦ absurd (none-some v (sym none ∙ (ap bytes (sym same) ∙ e))) | inr was ↦ k.1 s v m was e ]),
    λ k. (h.bits bit l).1 (k.0, λ s v m n e. k.1 s v m (after left next i s out low m n) e),
  );
  alone = λ k. h.alone (λ s m n. k s m (after left next i s out low m n));
}

pub together_and : (bytes : ℕ → Option ℕ) (own i both byte : ℕ) (left next : SlotSet) → TogetherSoFar bytes own left both → i < SLOTS → TakesOut i left next → bytes i ≡ Some byte → TogetherSoFar bytes own next (bit_and both byte)
together_and bytes own i both byte left next h low out some = record {
  bits = λ bit l. (
    λ b. let p = bits_both both byte bit b in let k = (h.bits bit l).0 p.0 in (
      k.0,
      λ s v m n e. elim (before left next i s out m n) [
        | inl same ↦ let is : byte ≡ v = same_Some byte v (sym some ∙ (ap bytes (sym same) ∙ e)) in subst (λ x. bit_at x bit ≡ 1) is p.1
        | inr was ↦ k.1 s v m was e
      ],
    ),
    λ k. both_bits both byte bit ((h.bits bit l).1 (k.0, λ s v m n e. k.1 s v m (after left next i s out low m n) e)) (k.1 i byte low (gone left next i i out low refl) some),
  );
  alone = λ k. absurd (none-some byte (sym (k i low (gone left next i i out low refl)) ∙ some));
}

pub together_all : (bytes : ℕ → Option ℕ) (own both : ℕ) (left : SlotSet) → TogetherSoFar bytes own left both → ((s : ℕ) → s < SLOTS → has left s ≡ false) → Together bytes own SLOTS both
together_all bytes own both left h none = record {
  bits = λ bit l. (
    λ b. let k = (h.bits bit l).0 b in (k.0, λ s v m e. k.1 s v m (none s m) e),
    λ k. (h.bits bit l).1 (k.0, λ s v m n e. k.1 s v m e),
  );
  alone = λ k. h.alone (λ s m n. k s m);
}

-- the slots that are left are others
pub record Others (drivers left : SlotSet) (lowest : ℕ) : Type 0 where
  pub each : (s : ℕ) → s < SLOTS → has left s ≡ true → (not (s == lowest) && has drivers s) ≡ true

pub others_less : (drivers left next : SlotSet) (lowest i : ℕ) → Others drivers left lowest → TakesOut i left next → Others drivers next lowest
others_less drivers left next lowest i h out = record { each = λ s l t. h.each s l (sym (still_in i left next out s l (not_taken i left next out s l t)) ∙ t) }

pub other_byte : (cuts : CutList) (drivers : SlotSet) (lowest s : ℕ) (place : Option Device) (byte : Option ℕ) → (not (s == lowest) && has drivers s) ≡ true → byte ≡ slot_byte place
    → byte_beside cuts drivers lowest s place ≡ option_map (driven (cut_of cuts s)) byte
other_byte cuts drivers lowest s place byte is e =
    ap (λ b. if b then option_map (driven (cut_of cuts s)) (slot_byte place) else None) is ∙ ap (option_map (driven (cut_of cuts s))) (sym e)
