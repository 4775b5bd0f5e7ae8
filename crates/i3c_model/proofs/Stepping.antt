-- Steps, and what decides them.
use Rattle.std.proofs.Common.{◌≡◌, ◌↔◌, ℕ, ◌⊎◌, IsTrue, Bool, true, false, not, ◌&&◌, ◌∷◌, Option, Some, None, is_none, is_some, MatchBool, MatchOption, sym, refl, ap, ◌∙◌, subst, inl, inr}
use Rattle.std.specs.Option.{unwrap_or}
use Rattle.std.proofs.lemmas.Bool.{and_parts, cond-true, false≢true, not-true}
use Rattle.std.proofs.lemmas.Option.{none-some}
use Rattle.i3c_base.specs.declared.identity.Identity.{Identity}
use denote.Enum.Bare.{sameb}
use Rattle.i3c_base.specs.Cutting.{Lost as LostDevices}
use Rattle.i3c_base.specs.Round.{AllHearersLost, AnyHears, IsAddressFor, IsHearer}
use Rattle.i3c_base.specs.State.{Device, State, IsKept, IsPick, IsPickable, IsUnknown, IsUsable, declared_at, device_at, entry_at, is_usable, legacy_target_at}
use Rattle.i3c_step.specs.declared.events.Event.{Event}
use Rattle.i3c_step.specs.declared.replies.Refusal.TheVariants.{NoDevice}
use Rattle.i3c_step.specs.declared.replies.Reply.{Reply}
use Rattle.i3c_model.specs.contracts.plain.Choice.{the_type}
use Rattle.i3c_model.specs.declared.plain.Choice.{Choice}
use Rattle.i3c_model.specs.declared.plain.Choice.TheVariants.{Heard, Lost, Silent}
use Rattle.i3c_base.proofs.SetLaws.{is_usable-true}
use Rattle.i3c_step.specs.Step.{Acts, Checks, IsShort, Step, checks, first_refusal, is_pickable}
use Rattle.i3c_step.proofs.Addresses.{IsSettled, pickable_settled}

-- an event that no test refuses acts, and one that a test refuses changes nothing
pub acts_there : (old : State) (event : Event) (reply : Reply) (new : State) → first_refusal (checks old event) ≡ None → Acts old event reply new → Step old event reply new
acts_there old event reply new none acts = subst (λ o. MatchOption o (IsShort old event reply new ⊎ Acts old event reply new) (λ why. (reply ≡ Reply.Refused why) × (new ≡ old))) (sym none) (inr acts)

-- the kept address, or the pick where none is kept
pub address_for : (st : State) (i : Identity) (pick : ℕ) (o : Option ℕ) (a : ℕ) → IsPick st pick → MatchOption o (IsUnknown st i) (IsKept st i) → a ≡ unwrap_or o pick → IsAddressFor st i a
address_for st i pick None a picked unknown e = subst (IsAddressFor st i) (sym e) (inr (unknown, picked))
address_for st i pick (Some b) a picked kept e = subst (IsAddressFor st i) (sym e) (inl kept)

-- an address may be picked if it is usable, wasn't given and is no static one
none_from : {A : Type 0} (o : Option A) → is_some o ≡ false → o ≡ None
none_from None e = refl
none_from (Some x) e = absurd (false≢true (sym e))

pub pickable_if_usable : (st : State) (a : ℕ) (usable : Bool) → (IsTrue usable ↔ IsUsable a) → is_some (entry_at st a) ≡ false → is_some (legacy_target_at st a) ≡ false → is_some (declared_at st a) ≡ false → IsTrue usable ↔ IsPickable st a
pickable_if_usable st a usable u given legacy declared =
    ((λ h. (u.0 h, none_from (entry_at st a) given, none_from (legacy_target_at st a) legacy, none_from (declared_at st a) declared)), λ p. u.1 p.0)

pub given_not_pickable : (st : State) (a : ℕ) → is_some (entry_at st a) ≡ true → IsPickable st a → ⊥
given_not_pickable st a given p = false≢true (sym (ap is_some p.1) ∙ given)

pub legacy_not_pickable : (st : State) (a : ℕ) → is_some (legacy_target_at st a) ≡ true → IsPickable st a → ⊥
legacy_not_pickable st a legacy p = false≢true (sym (ap is_some p.2) ∙ legacy)

pub declared_not_pickable : (st : State) (a : ℕ) → is_some (declared_at st a) ≡ true → IsPickable st a → ⊥
declared_not_pickable st a declared p = false≢true (sym (ap is_some p.3) ∙ declared)

-- the test of a pickable address
same_truth : (b c : Bool) → (b ≡ true → c ≡ true) → (c ≡ true → b ≡ true) → b ≡ c
same_truth true c to from = sym (to refl)
same_truth false true to from = from refl
same_truth false false to from = refl

and_join : (b c : Bool) → b ≡ true → c ≡ true → (b && c) ≡ true
and_join b c p q = ap (λ x. x && c) p ∙ q

settled_same : (st : State) → IsSettled st st
settled_same st = record { given = refl; legacy = refl; declared = refl; active = λ a h. h }

test_passes : (st : State) (a : ℕ) → IsPickable st a → is_pickable st a ≡ true
test_passes st a p =
    and_join (is_usable a) _ (is_usable-true a p.0)
    (and_join (is_none (entry_at st a)) _ (ap is_none p.1) (and_join (is_none (legacy_target_at st a)) (is_none (declared_at st a)) (ap is_none p.2) (ap is_none p.3)))

pub pickable_test : (st : State) (a : ℕ) (b : Bool) → (IsTrue b ↔ IsPickable st a) → b ≡ is_pickable st a
pickable_test st a b may = same_truth b (is_pickable st a) (λ h. test_passes st a (may.0 h)) (λ h. may.1 (pickable_settled st st a (settled_same st) h))

-- a device is there if no test refuses, since the first test is that no device is there
pub present_there : (old : State) (s : ℕ) (rest : Checks) → first_refusal ((is_none (device_at old s), NoDevice) ∷ rest) ≡ None → device_at old s ≡ None → ⊥
present_there old s rest none absent = none-some NoDevice (sym none ∙ cond-true (is_none (device_at old s)) (Some NoDevice) (first_refusal rest) (ap is_none absent))

and_false : (b : Bool) → (b && false) ≡ false
and_false true = refl
and_false false = refl

-- a round is over where each hearer is lost, as far as that is chosen
pub over_is : (st : State) (lost : LostDevices) (may found : Bool) → (found ≡ true) ↔ ((s : ℕ) × (d : Device) × (device_at st s ≡ Some d) × ((d.hearing && not (may && lost s)) ≡ true))
    → MatchBool (not found) (AllHearersLost st lost) (AnyHears st)
over_is st lost may false h = λ s d hears. go s d hears (lost s) refl
  where
    go : (s : ℕ) (d : Device) → IsHearer st s d → (b : Bool) → lost s ≡ b → b ≡ true
    go s d hears true e = refl
    go s d hears false e =
        absurd (false≢true (h.1 (s, d, hears.0, (ap (λ x. x && not (may && lost s)) hears.1 ∙ (ap (λ l. not (may && l)) e ∙ ap not (and_false may))))))
over_is st lost may true h =
    let some = h.0 refl in
    (some.0, some.1, (some.2, (and_parts some.1.hearing (not (may && lost some.0)) some.3).0))

-- the test of a choice
pub is_silent : (c : Choice) → sameb the_type c Silent ≡ true → c ≡ Silent
is_silent Heard h = absurd (false≢true h)
is_silent Lost h = absurd (false≢true h)
is_silent Silent h = refl

pub silent_is : (c : Choice) → c ≡ Silent → sameb the_type c Silent ≡ true
silent_is c e = ap (λ x. sameb the_type x Silent) e

pub lost_is : (c : Choice) → c ≡ Lost → sameb the_type c Lost ≡ true
lost_is c e = ap (λ x. sameb the_type x Lost) e

-- a round is over as it is chosen
pub over_chosen : (st : State) (lost : LostDevices) (choice : Choice) (may found : Bool) → may ≡ sameb the_type choice Silent
    → (found ≡ true) ↔ ((s : ℕ) × (d : Device) × (device_at st s ≡ Some d) × ((d.hearing && not (may && lost s)) ≡ true))
    → MatchBool (not found) (¬ (choice ≡ Silent) → ¬ AnyHears st) (choice ≡ Silent → ¬ AllHearersLost st lost)
over_chosen st lost choice may false is h = λ ne any. go ne any may refl
  where
    go : ¬ (choice ≡ Silent) → AnyHears st → (b : Bool) → may ≡ b → ⊥
    go ne any true e = ne (is_silent choice (sym is ∙ e))
    go ne any false e = false≢true (h.1 (any.0, any.1, any.2.0, (ap (λ x. x && not (may && lost any.0)) any.2.1 ∙ ap (λ m. not (m && lost any.0)) e)))
over_chosen st lost choice may true is h = λ e all.
    let some = h.0 refl in
    let p = and_parts some.1.hearing (not (may && lost some.0)) some.3 in
    let left : not (lost some.0) ≡ true = ap (λ m. not (m && lost some.0)) (sym (is ∙ silent_is choice e)) ∙ p.1 in
    false≢true (sym (not-true (lost some.0) left) ∙ all some.0 some.1 (some.2, p.0))
