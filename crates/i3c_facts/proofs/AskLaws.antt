-- Who asks: the devices that drive the first request of the next frame.
use Rattle.std.proofs.Common.{◌≡◌, ◌∙◌, ℕ, zero, suc, ◌<◌, ◌≤◌, Bool, true, false, not, ◌&&◌, ◌==◌, inl, inr, length, Option, Some, None, ap, arith, refl, subst, sym, if◌then◌else◌}
use Rattle.std.proofs.lemmas.Bool.{and_from, and_left, and_parts, and_right, both_ways, cases_Bool, cases_eq, cases_lt, eqb-true, false≢true, le-ltb, lt-ltb, not-true, not_from_false, not_from_true, or_from, or_left, or_right}
use Rattle.std.proofs.lemmas.List.{get_or_past}
use Rattle.std.specs.Prelude.{is_none, option_and_then}
use Rattle.i3c_base.specs.declared.requests.Request.{Request}
use Rattle.i3c_base.specs.declared.requests.Request.TheVariants.{Join, Role, Interrupt}
use Rattle.i3c_base.specs.Serve.{IsFirst, asks, drives, is_empty, rank}
use Rattle.i3c_base.specs.State.{Device, State, device_at, in_slot, is_the}
use Rattle.i3c_device.specs.Wishing.{choice_of}
use Rattle.i3c_step.proofs.Uniqueness.{first_unique}
use Rattle.i3c_facts.specs.Holding.{choice_in, is_ahead, is_asking, is_beaten, is_first}
use Rattle.i3c_facts.specs.Laws.{AskersDriveTheFirst}

chosen_join : (address : Option ℕ) (d : Device) → (is_none address && (d.join_wish && d.kinds.join)) ≡ true → choice_of address d ≡ Some Join
chosen_join None d h = ap (λ wish. if wish then Some Join else None) (and_parts d.join_wish d.kinds.join h).0
chosen_join (Some a) d h = absurd (false≢true h)

chosen_role : (address : Option ℕ) (d : Device) (a : ℕ) → (is_the a address && (d.role_wish && d.kinds.role)) ≡ true → choice_of address d ≡ Some (Role a)
chosen_role None d a h = absurd (false≢true h)
chosen_role (Some b) d a h =
    let parts = and_parts (b == a) (d.role_wish && d.kinds.role) h in
    ap (λ wish. if wish then Some (Role b) else (if is_empty d.waiting then None else Some (Interrupt b))) (and_parts d.role_wish d.kinds.role parts.1).0
    ∙ ap (λ x. Some (Role x)) (eqb-true b a parts.0)

chosen_interrupt : (address : Option ℕ) (d : Device) (a : ℕ) → (is_the a address && (not d.role_wish && (not (is_empty d.waiting) && d.kinds.interrupt))) ≡ true → choice_of address d ≡ Some (Interrupt a)
chosen_interrupt None d a h = absurd (false≢true h)
chosen_interrupt (Some b) d a h =
    let parts = and_parts (b == a) (not d.role_wish && (not (is_empty d.waiting) && d.kinds.interrupt)) h in
    let more = and_parts (not d.role_wish) (not (is_empty d.waiting) && d.kinds.interrupt) parts.1 in
    let some = (and_parts (not (is_empty d.waiting)) d.kinds.interrupt more.1).0 in
    ap (λ wish. if wish then Some (Role b) else (if is_empty d.waiting then None else Some (Interrupt b))) (not-true d.role_wish more.0)
    ∙ ap (λ none. if none then None else Some (Interrupt b)) (not-true (is_empty d.waiting) some)
    ∙ ap (λ x. Some (Interrupt x)) (eqb-true b a parts.0)

asked_is : (d : Device) (r : Request) → asks d r ≡ true → choice_of d.address d ≡ Some r
asked_is d Join h = chosen_join d.address d h
asked_is d (Role a) h = chosen_role d.address d a h
asked_is d (Interrupt a) h = chosen_interrupt d.address d a h

choice_at : (place : Option Device) (r : Request) → in_slot (λ d. asks d r) place ≡ true → option_and_then (λ (d : Device). choice_of d.address d) place ≡ Some r
choice_at None r h = absurd (false≢true h)
choice_at (Some d) r h = asked_is d r h

-- the request that a slot drives is its device's choice
choice_is : (st : State) (r : Request) (slot : ℕ) → drives st r slot ≡ true → choice_in st slot ≡ Some r
choice_is st r slot h = choice_at (device_at st slot) r (and_parts (not (slot == st.active)) (in_slot (λ d. asks d r) (device_at st slot)) h).1

-- the slot of a device that drives something is among the bus's slots
driver_within : (st : State) (r : Request) (slot : ℕ) → drives st r slot ≡ true → slot < length st.devices
driver_within st r slot h = elim (cases_lt slot (length st.devices)) [
  | inl within ↦ within
  | inr past ↦
      let test = λ (place : Option Device). in_slot (λ d. asks d r) place in
      absurd (false≢true (sym (ap test (get_or_past st.devices slot None past)) ∙ (and_parts (not (slot == st.active)) (test (device_at st slot)) h).1))
]

-- nobody's request comes before this one
abbrev Leads : State → Request → Type 0
Leads st r = (s : ℕ) (q : Request) → drives st q s ≡ true → rank r ≤ rank q

none_ahead : (st : State) (r : Request) (slot : ℕ) (choice : Option Request) → Leads st r → is_ahead st r slot choice ≡ false
none_ahead st r slot None first = refl
none_ahead st r slot (Some q) first = elim (cases_Bool (drives st q slot)) [
  | inl does ↦ and_right _ _ (le-ltb (rank q) (rank r) (first slot q does))
  | inr other ↦ and_left _ _ other
]

unbeaten : (st : State) (r : Request) (count : ℕ) → Leads st r → is_beaten st r count ≡ false
unbeaten st r zero first = refl
unbeaten st r (suc slot) first = or_from _ _ (unbeaten st r slot first) (none_ahead st r slot (choice_in st slot) first)

beaten : (st : State) (q r : Request) (driver count : ℕ) → driver < count → drives st r driver ≡ true → rank r < rank q → is_beaten st q count ≡ true
beaten st q r driver zero within does lower = absurd (omega (arith, within))
beaten st q r driver (suc slot) within does lower = elim (cases_eq driver slot) [
  | inl same ↦
      or_right _ _ (subst (λ s. is_ahead st q s (choice_in st s) ≡ true) same (ap (is_ahead st q driver) (choice_is st r driver does) ∙ and_from _ _ does (lt-ltb (rank r) (rank q) lower)))
  | inr other ↦ or_left _ _ (beaten st q r driver slot (omega (arith, within, other)) does lower)
]

-- a slot that drives the first request asks
asks_so : (st : State) (r : Request) (slot : ℕ) → IsFirst st r → drives st r slot ≡ true → is_asking st (Some slot) ≡ true
asks_so st r slot first does = ap (is_first st slot) (choice_is st r slot does) ∙ and_from _ _ does (not_from_false _ (unbeaten st r (length st.devices) first.first))

not_first : (st : State) (r : Request) (slot : ℕ) (choice : Option Request) → IsFirst st r → drives st r slot ≡ false → is_first st slot choice ≡ false
not_first st r slot None first silent = refl
not_first st r slot (Some q) first silent = elim (cases_Bool (drives st q slot)) [
  | inr other ↦ and_left _ _ other
  | inl does ↦ elim (cases_lt (rank r) (rank q)) [
    | inl lower ↦ and_right _ _ (not_from_true _ (beaten st q r first.driven.0 (length st.devices) (driver_within st r first.driven.0 first.driven.1) first.driven.1 lower))
    | inr least ↦
        let leads : IsFirst st q = record { driven = (slot, does); first = λ s p drives_it. omega (arith, first.first s p drives_it, least) } in
        absurd (both_ways (drives st r slot) silent (subst (λ p. drives st p slot ≡ true) (sym (first_unique st r q first leads)) does))
  ]
]

-- one that doesn't is silent
asks_not : (st : State) (r : Request) (slot : ℕ) → IsFirst st r → drives st r slot ≡ false → is_asking st (Some slot) ≡ false
asks_not st r slot first silent = not_first st r slot (choice_in st slot) first silent

pub asking_is : (st : State) (r : Request) (slot : ℕ) (result : Bool) → IsFirst st r → result ≡ drives st r slot → result ≡ is_asking st (Some slot)
asking_is st r slot true first e = sym (asks_so st r slot first (sym e))
asking_is st r slot false first e = sym (asks_not st r slot first (sym e))

first_of : (st : State) (slot : ℕ) (choice : Option Request) → is_first st slot choice ≡ true → (r : Request) × IsFirst st r × (drives st r slot ≡ true)
first_of st slot None h = absurd (false≢true h)
first_of st slot (Some q) h =
    let parts = and_parts (drives st q slot) (not (is_beaten st q (length st.devices))) h in
    let alone = not-true (is_beaten st q (length st.devices)) parts.1 in
    let leads : Leads st q = λ s p does. elim (cases_lt (rank p) (rank q)) [
      | inl lower ↦ absurd (both_ways (is_beaten st q (length st.devices)) alone (beaten st q p s (length st.devices) (driver_within st p s does) does lower))
      | inr least ↦ least
    ] in
    (q, record { driven = (slot, parts.0); first = leads }, parts.0)

pub askers_drive : AskersDriveTheFirst
askers_drive st slot = (λ asking. first_of st slot (choice_in st slot) asking, λ first. asks_so st first.0 slot first.1 first.2)
