-- What is found in some slots, and which of them are chosen, looked through one after another, lowest first.
use Rattle.std.proofs.Common.{◌≡◌, ℕ, ◌<◌, Bool, true, false, not, ◌&&◌, ◌==◌, if◌then◌else◌, List, get_or, Option, None, inl, inr, refl, sym, ap, ◌∙◌, arith}
use Rattle.std.proofs.lemmas.Bool.{both_ways, cases_eq, cond-true, cond-false, eq-eqb, ne_eqb}
use Rattle.i3c_base.specs.declared.range.TheConstants.{SLOTS}
use Rattle.i3c_base.specs.State.{Device}
use Rattle.i3c_device.specs.declared.slot_set.SlotSet.{SlotSet}
use Rattle.i3c_device.specs.Finding.{IsLowestFound, IsNowhere}
use Rattle.i3c_device.specs.Sets.{has}

-- slot i is taken out of a set
abbrev pub TakesOut : ℕ → SlotSet → SlotSet → Type 0
TakesOut i left next = (s : ℕ) → s < SLOTS → has next s ≡ (if s == i then false else has left s)

pub still_in : (i : ℕ) (left next : SlotSet) → TakesOut i left next → (s : ℕ) → s < SLOTS → (s ≡ i → ⊥) → has next s ≡ has left s
still_in i left next out s l ne = out s l ∙ cond-false (s == i) false (has left s) (ne_eqb s i ne)

pub not_taken : (i : ℕ) (left next : SlotSet) → TakesOut i left next → (s : ℕ) → s < SLOTS → has next s ≡ true → s ≡ i → ⊥
not_taken i left next out s l h e = both_ways _ (out s l ∙ cond-true (s == i) false (has left s) (eq-eqb s i e)) h

taken : (i : ℕ) (left next : SlotSet) → TakesOut i left next → i < SLOTS → has next i ≡ false
taken i left next out l = out i l ∙ cond-true (i == i) false (has left i) (eq-eqb i i refl)

-- of the slots of a set that aren't left, those that pass the test are chosen
pub record ChosenSoFar (test : ℕ → Bool) (among left chosen : SlotSet) : Type 0 where
  pub within : (s : ℕ) → s < SLOTS → has left s ≡ true → has among s ≡ true
  pub are : (s : ℕ) → s < SLOTS → has chosen s ≡ (not (has left s) && (has among s && test s))

pub chosen_none : (test : ℕ → Bool) (among chosen : SlotSet) → ((s : ℕ) → has chosen s ≡ false) → ChosenSoFar test among among chosen
chosen_none test among chosen none = record { within = λ s l t. t; are = λ s l. none s ∙ sym (neither (has among s) (test s)) }
  where
    neither : (a b : Bool) → (not a && (a && b)) ≡ false
    neither true b = refl
    neither false b = refl

pub chosen_more : (test : ℕ → Bool) (among left next : SlotSet) (i : ℕ) (chosen more : SlotSet) → ChosenSoFar test among left chosen → i < SLOTS → has left i ≡ true → TakesOut i left next
    → ((s : ℕ) → s < SLOTS → has more s ≡ (if s == i then test i else has chosen s)) → ChosenSoFar test among next more
chosen_more test among left next i chosen more h low there out put = record {
  within = λ s l t. h.within s l (sym (still_in i left next out s l (not_taken i left next out s l t)) ∙ t);
  are = λ s l. put s l ∙ elim (cases_eq s i) [
    | inl e ↦
        cond-true (s == i) (test i) (has chosen s) (eq-eqb s i e)
        ∙ sym (ap (λ b. not b && (has among s && test s)) (ap (has next) e ∙ taken i left next out low)
        ∙ (ap (λ b. b && test s) (ap (has among) e ∙ h.within i low there) ∙ ap test e))
    | inr ne ↦
        cond-false (s == i) (test i) (has chosen s) (ne_eqb s i ne)
        ∙ (h.are s l ∙ ap (λ b. not b && (has among s && test s)) (sym (still_in i left next out s l ne)))
  ];
}

pub chosen_all : (test : ℕ → Bool) (among left chosen : SlotSet) → ChosenSoFar test among left chosen → ((s : ℕ) → s < SLOTS → has left s ≡ false)
    → (s : ℕ) → s < SLOTS → has chosen s ≡ (has among s && test s)
chosen_all test among left chosen h none s l = h.are s l ∙ ap (λ b. not b && (has among s && test s)) (none s l)

-- the devices in the slots of a set that aren't left fail the test
pub record Searches (test : ℕ → Option Device → Bool) (among left : SlotSet) (places : List (Option Device)) : Type 0 where
  pub among_them : (s : ℕ) → s < SLOTS → has left s ≡ true → has among s ≡ true
  pub searched : (s : ℕ) → s < SLOTS → has among s ≡ true → has left s ≡ false → test s (get_or places s None) ≡ false

pub searches_none : (test : ℕ → Option Device → Bool) (among : SlotSet) (places : List (Option Device)) → Searches test among among places
searches_none test among places = record { among_them = λ s l h. h; searched = λ s l h n. absurd (both_ways _ n h) }

pub searches_more : (test : ℕ → Option Device → Bool) (among left next : SlotSet) (places : List (Option Device)) (i : ℕ) → Searches test among left places → has left i ≡ true → TakesOut i left next
    → test i (get_or places i None) ≡ false → Searches test among next places
searches_more test among left next places i h there out fails = record {
  among_them = λ s l t. h.among_them s l (sym (still_in i left next out s l (not_taken i left next out s l t)) ∙ t);
  searched = λ s l t n. elim (cases_eq s i) [
    | inl e ↦ ap (λ k. test k (get_or places k None)) e ∙ fails
    | inr ne ↦ h.searched s l t (sym (still_in i left next out s l ne) ∙ n)
  ];
}

pub lowest_found : (test : ℕ → Option Device → Bool) (among left : SlotSet) (places : List (Option Device)) (i : ℕ) → Searches test among left places → i < SLOTS → has left i ≡ true → ((s : ℕ) → s < i → has left s ≡ false)
    → test i (get_or places i None) ≡ true → IsLowestFound test among places i
lowest_found test among left places i h low there least passes = record {
  among_them = h.among_them i low there;
  found = passes;
  below = λ s l t. h.searched s (omega arith) t (least s l);
}

pub found_nowhere : (test : ℕ → Option Device → Bool) (among left : SlotSet) (places : List (Option Device)) → Searches test among left places → ((s : ℕ) → s < SLOTS → has left s ≡ false) → IsNowhere test among places
found_nowhere test among left places h none s l t = h.searched s l t (none s l)
