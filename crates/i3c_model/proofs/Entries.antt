-- What is found among a map's entries, and what is in its slots: drivers, targets and hearers.
use Rattle.std.proofs.Common.{◌≡◌, ◌≢◌, ◌↔◌, ℕ, zero, suc, ◌<◌, Bool, true, false, not, ◌==◌, ◌&&◌, ◌||◌, List, [], ◌∷◌, length, get_or, Option, Some, None, is_none, Contains, ◌⊎◌, inl, inr, sym, refl, ap, ◌∙◌, arith, nat_cmp}
use Rattle.std.specs.List.{list_any}
use Rattle.std.specs.BTreeMap.{IsOrdered}
use Rattle.std.proofs.Math.Bool.{beq}
use Rattle.std.proofs.lemmas.Bool.{and_parts, eq-eqb, eqb-false, eqb-true, false≢true, ne_eqb, not-true}
use Rattle.std.proofs.lemmas.Cmp.{nat_cmp_total}
use Rattle.std.proofs.lemmas.Map.Lookups.{exact_unsigned}
use Rattle.std.proofs.lemmas.Map.Views.{btree_map_get_iff}
use Rattle.i3c_base.specs.declared.requests.Request.{Request}
use Rattle.i3c_base.specs.Cutting.{Lost}
use Rattle.i3c_base.specs.Frames.{SomeLeftAt, SomeUnaddressedLeftAt}
use Rattle.i3c_base.specs.Serve.{asks, drives}
use Rattle.i3c_base.specs.State.{Device, State, device_at, has_address, in_slot, is_the}
use Rattle.i3c_model.specs.declared.plain.Plain.TheInside.{Inside}
use Rattle.i3c_model.specs.Views.{IsWithinPlaces, state_of}
use Rattle.i3c_model.proofs.States.{device_there}

or_cases : (b c : Bool) → (b || c) ≡ true → (b ≡ true) ⊎ (c ≡ true)
or_cases true c h = inl refl
or_cases false c h = inr h

or_left : (b c : Bool) → b ≡ true → (b || c) ≡ true
or_left true c h = refl
or_left false c h = absurd (false≢true h)

or_right : (b c : Bool) → c ≡ true → (b || c) ≡ true
or_right true c h = refl
or_right false c h = h

-- some entry passes a test
any_from : (test : ℕ × Device → Bool) (es : List (ℕ × Device)) → list_any test es ≡ true → (s : ℕ) × (d : Device) × Contains es (s, d) × (test (s, d) ≡ true)
any_from test [] h = absurd (false≢true h)
any_from test (e ∷ es) h = elim (or_cases (test e) (list_any test es) h) [
  | inl here ↦ (e.0, e.1, (0, omega arith, refl), here)
  | inr there ↦ let r = any_from test es there in (r.0, r.1, (suc r.2.0, (let l = r.2.1 in omega arith), r.2.2), r.3)
]

any_at : (test : ℕ × Device → Bool) (es : List (ℕ × Device)) (k : ℕ) (e : ℕ × Device) → k < length es → get_or es k e ≡ e → test e ≡ true → list_any test es ≡ true
any_at test [] k e l at h = absurd (omega arith)
any_at test (x ∷ es) zero e l at h = or_left (test x) (list_any test es) (ap test at ∙ h)
any_at test (x ∷ es) (suc k) e l at h = or_right (test x) (list_any test es) (any_at test es k e (omega arith) at h)

module _ (p : Inside) (st : State) (seen : state_of p ≡ st) (within : IsWithinPlaces p) (ordered : IsOrdered nat_cmp p.devices) where
  -- an entry is in its slot, and what is in a slot is an entry
  pub entry_in_slot : (s : ℕ) (d : Device) → Contains p.devices.entries (s, d) → device_at st s ≡ Some d
  entry_in_slot s d at = device_there p st seen within s ∙ (btree_map_get_iff nat_cmp_total exact_unsigned p.devices ordered s d).1 at

  pub slot_in_entries : (s : ℕ) (d : Device) → device_at st s ≡ Some d → (k : ℕ) × (k < length p.devices.entries) × (get_or p.devices.entries k (s, d) ≡ (s, d))
  slot_in_entries s d h = (btree_map_get_iff nat_cmp_total exact_unsigned p.devices ordered s d).0 (sym (device_there p st seen within s) ∙ h)

  -- some device passes a test exactly if some entry does
  pub any_there : (test : ℕ × Device → Bool) (b : Bool) → b ≡ list_any test p.devices.entries → (b ≡ true) ↔ ((s : ℕ) × (d : Device) × (device_at st s ≡ Some d) × (test (s, d) ≡ true))
  any_there test b e = (
    (λ h. let r = any_from test p.devices.entries (sym e ∙ h) in (r.0, r.1, entry_in_slot r.0 r.1 r.2, r.3)),
    (λ h. let at = slot_in_entries h.0 h.1 h.2 in e ∙ any_at test p.devices.entries at.0 (h.0, h.1) at.1 at.2 h.3),
  )

-- what the tests of drivers and of targets say
not_same : (s active : ℕ) → not (s == active) ≡ true → s ≢ active
not_same s active h = eqb-false s active (not-true (s == active) h)

the_address : (a : ℕ) (o : Option ℕ) → is_the a o ≡ true → o ≡ Some a
the_address a None h = absurd (false≢true h)
the_address a (Some b) h = ap Some (eqb-true b a h)

is_the-same : (a : ℕ) (o : Option ℕ) → o ≡ Some a → is_the a o ≡ true
is_the-same a o e = ap (is_the a) e ∙ eq-eqb a a refl

and_join : (a b : Bool) → a ≡ true → b ≡ true → (a && b) ≡ true
and_join a b p q = ap (λ x. x && b) p ∙ q

pub drivers_left : (st : State) (r : Request) (lost : Lost) (active : ℕ) → active ≡ st.active
    → ((s : ℕ) × (d : Device) × (device_at st s ≡ Some d) × ((not (s == active) && (asks d r && not (lost s))) ≡ true)) ↔ ((s : ℕ) × (drives st r s ≡ true) × (lost s ≡ false))
drivers_left st r lost active e = (
  λ h. let p = and_parts (not (h.0 == active)) _ h.3 in let q = and_parts (asks h.1 r) (not (lost h.0)) p.1 in
      (h.0, (ap (λ o. not (h.0 == st.active) && in_slot (λ x. asks x r) o) h.2 ∙ and_join (not (h.0 == st.active)) (asks h.1 r) (ap (λ k. not (h.0 == k)) (sym e) ∙ p.0) q.0), not-true (lost h.0) q.1),
  λ h. go h.0 (device_at st h.0) refl h.1 h.2,
)
  where
    go : (s : ℕ) (o : Option Device) → device_at st s ≡ o → (not (s == st.active) && in_slot (λ x. asks x r) o) ≡ true → lost s ≡ false
        → (s : ℕ) × (d : Device) × (device_at st s ≡ Some d) × ((not (s == active) && (asks d r && not (lost s))) ≡ true)
    go s None at driven left = absurd (false≢true (and_parts (not (s == st.active)) false driven).1)
    go s (Some d) at driven left =
        let p = and_parts (not (s == st.active)) (asks d r) driven in
        (s, d, at, and_join (not (s == active)) _ (ap (λ k. not (s == k)) e ∙ p.0) (and_join (asks d r) (not (lost s)) p.1 (ap not left)))

pub targets_left : (st : State) (a : ℕ) (lost : Lost) (active : ℕ) → active ≡ st.active
    → ((s : ℕ) × (d : Device) × (device_at st s ≡ Some d) × ((not (s == active) && (has_address a d && not (lost s))) ≡ true)) ↔ SomeLeftAt st a lost
targets_left st a lost active e = (
  λ h. let p = and_parts (not (h.0 == active)) _ h.3 in let q = and_parts (has_address a h.1) (not (lost h.0)) p.1 in
      (h.0, h.1, (h.2, the_address a h.1.address q.0, not_same h.0 st.active (ap (λ k. not (h.0 == k)) (sym e) ∙ p.0)), not-true (lost h.0) q.1),
  λ h. (h.0, h.1, h.2.0, and_join (not (h.0 == active)) _ (ap (λ k. not (h.0 == k)) e ∙ ap not (ne_eqb h.0 st.active h.2.2)) (and_join (has_address a h.1) (not (lost h.0)) (is_the-same a h.1.address h.2.1) (ap not h.3))),
)

no_address : (o : Option ℕ) → is_none o ≡ true → o ≡ None
no_address None h = refl
no_address (Some b) h = absurd (false≢true h)

pub bare_left : (st : State) (f : ℕ) (lost : Lost) (active : ℕ) → active ≡ st.active
    → ((s : ℕ) × (d : Device) × (device_at st s ≡ Some d) × ((not (s == active) && ((is_none d.address && is_the f d.fixed) && not (lost s))) ≡ true)) ↔ SomeUnaddressedLeftAt st f lost
bare_left st f lost active e = (
  λ h.
      let p = and_parts (not (h.0 == active)) _ h.3 in
      let q = and_parts (is_none h.1.address && is_the f h.1.fixed) (not (lost h.0)) p.1 in
      let r = and_parts (is_none h.1.address) (is_the f h.1.fixed) q.0 in
      (h.0, h.1, (h.2, no_address h.1.address r.0, the_address f h.1.fixed r.1, not_same h.0 st.active (ap (λ k. not (h.0 == k)) (sym e) ∙ p.0)), not-true (lost h.0) q.1),
  λ h. (
    h.0,
    h.1,
    h.2.0,
    and_join (not (h.0 == active)) _ (ap (λ k. not (h.0 == k)) e ∙ ap not (ne_eqb h.0 st.active h.2.3))
        (and_join (is_none h.1.address && is_the f h.1.fixed) (not (lost h.0)) (and_join (is_none h.1.address) (is_the f h.1.fixed) (ap is_none h.2.1) (is_the-same f h.1.fixed h.2.2)) (ap not h.3)),
  ),
)

-- the test of hearers that are lost, or left
pub hears_test : (hearing lost which : Bool) → ((hearing && beq lost which) ≡ true) ↔ ((hearing ≡ true) × (lost ≡ which))
hears_test hearing lost which = (
  λ h. let p = and_parts hearing (beq lost which) h in (p.0, same lost which p.1),
  λ h. and_join hearing (beq lost which) h.0 (ap (λ x. beq x which) h.1 ∙ alike which),
)
  where
    same : (a b : Bool) → beq a b ≡ true → a ≡ b
    same true true h = refl
    same true false h = absurd (false≢true h)
    same false true h = absurd (false≢true h)
    same false false h = refl

    alike : (a : Bool) → beq a a ≡ true
    alike true = refl
    alike false = refl
