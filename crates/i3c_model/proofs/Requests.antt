-- The first request: the scan over the slots.
use Rattle.std.proofs.lemmas.Bool.{both_ways, cases_eq, cases_lt, ne_eqb}
use Rattle.std.proofs.lemmas.List.{get_or_past}
use Rattle.std.specs.Prelude.{⊤}
use Rattle.std.proofs.Common.{◌≡◌, ℕ, ◌+◌, ◌<◌, ◌≤◌, Bool, true, false, not, ◌&&◌, ◌==◌, length, IfSome, Option, Some, None, MatchOption, ◌⊎◌, inl, inr, refl, sym, ap, subst, arith, ◌∙◌}
use Rattle.i3c_base.specs.declared.requests.Request.{Request}
use Rattle.i3c_base.specs.State.{Device, State, device_at, in_slot}
use Rattle.i3c_base.specs.Serve.{IsFirstRequest, asks, drives, rank}

-- no slot below n drives a request
abbrev pub NoneBelow : State → ℕ → Type 0
NoneBelow st n = (s : ℕ) (q : Request) → s < n → drives st q s ≡ false

-- r is driven, and none of the slots below n drives one that comes before it
pub record FirstBelow (st : State) (n : ℕ) (r : Request) : Type 0 where
  pub driven : (s : ℕ) × (drives st r s ≡ true)
  pub least : (s : ℕ) (q : Request) → s < n → drives st q s ≡ true → rank r ≤ rank q

-- the first request of the slots below n, if there is one
abbrev pub IsFirstSoFar : State → ℕ → Option Request → Type 0
IsFirstSoFar st n first = MatchOption first (NoneBelow st n) (FirstBelow st n)

and_false : (b : Bool) → (b && false) ≡ false
and_false true = refl
and_false false = refl

-- past the last slot nobody drives
drives_none : (s active : ℕ) (o : Option Device) (q : Request) → o ≡ None → (not (s == active) && in_slot (λ d. asks d q) o) ≡ true → ⊥
drives_none s active None q e d = both_ways _ (and_false (not (s == active))) d
drives_none s active (Some x) q e d = cc

pub drives_in : (st : State) (q : Request) (s : ℕ) → drives st q s ≡ true → s < length st.devices
drives_in st q s d = elim (cases_lt s (length st.devices)) [
  | inl l ↦ l
  | inr past ↦ absurd (drives_none s st.active (device_at st s) q (get_or_past st.devices s None past) d)
]

not_true : (b : Bool) → (b ≡ true → ⊥) → b ≡ false
not_true true h = absurd (h refl)
not_true false h = refl

-- so what came first of all slots is first
pub first_all : (st : State) (n : ℕ) (first : Option Request) → n ≡ length st.devices → IsFirstSoFar st n first → IsFirstRequest st first
first_all st n None e h = λ s q. not_true _ (λ d. both_ways _ (h s q (let l = drives_in st q s d in omega arith)) d)
first_all st n (Some r) e h = record {
  driven = h.driven;
  first = λ s q d. h.least s q (let l = drives_in st q s d in omega arith) d;
}

-- the slot of a device drives what the device asks for, unless it is the active controller's
drives_of : (st : State) (s : ℕ) (d : Device) (q : Request) → (s ≡ st.active → ⊥) → device_at st s ≡ Some d → drives st q s ≡ asks d q
drives_of st s d q ne at = ap (λ o. not (s == st.active) && in_slot (λ x. asks x q) o) at ∙ ap (λ b. not b && asks d q) (ne_eqb s st.active ne)

-- what the device wants, its slot drives
pub wanted_asked : (st : State) (s : ℕ) (d : Device) (o : Option Request) → (s ≡ st.active → ⊥) → device_at st s ≡ Some d → MatchOption o ((q : Request) → asks d q ≡ false) (λ r. asks d r ≡ true)
    → MatchOption o ((q : Request) → drives st q s ≡ false) (λ r. drives st r s ≡ true)
wanted_asked st s d None ne at h = λ q. drives_of st s d q ne at ∙ h q
wanted_asked st s d (Some r) ne at h = drives_of st s d r ne at ∙ h

pub wanted_alone : (st : State) (s : ℕ) (d : Device) (o : Option Request) → (s ≡ st.active → ⊥) → device_at st s ≡ Some d → IfSome o (λ r. (q : Request) → asks d q ≡ true → q ≡ r)
    → IfSome o (λ r. (q : Request) → drives st q s ≡ true → q ≡ r)
wanted_alone st s d None ne at h = h
wanted_alone st s d (Some r) ne at h = λ q k. h q (sym (drives_of st s d q ne at) ∙ k)

-- an empty slot drives nothing
pub none_driven : (st : State) (s : ℕ) (q : Request) → device_at st s ≡ None → drives st q s ≡ false
none_driven st s q at = ap (λ o. not (s == st.active) && in_slot (λ x. asks x q) o) at ∙ and_false (not (s == st.active))
