-- What marks say of the places that they are of.
use Rattle.std.proofs.Common.{◌≡◌, ℕ, zero, suc, ◌<◌, Bool, true, false, not, ◌&&◌, ◌==◌, if◌then◌else◌, List, [], ◌∷◌, length, length-set, get_or, set, replicate, Option, Some, None, is_none, option_map, slice_index, subst, inl, inr, refl, sym, ap, ◌∙◌, arith}
use Rattle.std.proofs.lemmas.Bool.{and_parts, both_ways, cases_eq, cond-true, cond-false, eq-eqb, ne_eqb}
use Rattle.std.proofs.lemmas.List.{get_or-replicate, get_or-set_other, length-replicate, get_or-set_same}
use Rattle.std.proofs.lemmas.Option.{none-some, same_Some}
use Rattle.i3c_base.specs.declared.range.TheConstants.{SLOTS}
use Rattle.i3c_base.specs.declared.identity.Identity.{Identity}
use Rattle.i3c_base.specs.declared.requests.Request.{Request}
use Rattle.i3c_base.specs.declared.device.Waiting.{Waiting}
use Rattle.i3c_base.specs.Numbers.{IsInRange, number_of}
use Rattle.i3c_base.specs.Round.{hears, unhearing}
use Rattle.i3c_base.specs.Serve.{asks, drives_in}
use Rattle.i3c_base.specs.State.{Device, in_slot, is_the, no_devices, Population, device_in}
use Rattle.i3c_base.proofs.Lookups.{no_devices_at}
use Rattle.i3c_wires.specs.declared.bit_columns.BitColumns.{BitColumns}
use Rattle.i3c_wires.specs.BitColumns.{AreTurned}
use Rattle.i3c_device.specs.declared.slot_index.SlotIndex.{SlotIndex}
use Rattle.i3c_device.specs.declared.answering.Answering.{Answering}
use Rattle.i3c_device.specs.declared.answering.TheConstants.{NOWHERE}
use Rattle.i3c_device.specs.declared.slot_set.SlotSet.{SlotSet}
use Rattle.i3c_device.specs.Addressing.{IsDynamicIn}
use Rattle.i3c_device.specs.Answering.{AreFound}
use Rattle.i3c_device.specs.Holding.{identity_in}
use Rattle.i3c_device.specs.SlotIndex.{AreMarks, DoAnswer, HaveColumns, IsSetOf, answer_in, answer_of, key_in, requeued}
use Rattle.i3c_device.specs.Sets.{has}
use Rattle.i3c_device.specs.Walks.{AreTakers, AreReached}
use Rattle.i3c_device.specs.Wishing.{wishes_interrupt, wishes_join, wishes_role}

-- of two truth values the second is known
and_true : (x : Bool) → (x && true) ≡ x
and_true true = refl
and_true false = refl

and_false : (x : Bool) → (x && false) ≡ false
and_false true = refl
and_false false = refl

-- places that are all empty
pub all_none : {A : Type 0} (xs : List (Option A)) (n : ℕ) → length xs ≡ n → ((k : ℕ) → k < n → get_or xs k None ≡ None) → xs ≡ replicate n None
all_none [] zero l h = refl
all_none [] (suc n) l h = absurd (omega arith)
all_none (x ∷ xs) zero l h = absurd (omega arith)
all_none (x ∷ xs) (suc n) l h = let rest = all_none xs n (omega arith) (λ k m. h (suc k) (omega arith)) in λ t. h zero (omega arith) t ∷ rest t

-- empty slots
pub set_of_none : (test : Device → Bool) (slots : SlotSet) → ((s : ℕ) → has slots s ≡ false) → IsSetOf test slots no_devices
set_of_none test slots none s l = none s ∙ sym (ap (in_slot test) (no_devices_at s))

-- one place anew
pub set_of_put : (test : Device → Bool) (old new : SlotSet) (places : List (Option Device)) (i : ℕ) (place : Option Device) (b : Bool) → i < length places → IsSetOf test old places → b ≡ in_slot test place
    → ((s : ℕ) → s < SLOTS → has new s ≡ (if s == i then b else has old s)) → IsSetOf test new (set places i place)
set_of_put test old new places i place b low h is put s l = put s l ∙ elim (cases_eq s i) [
  | inl e ↦ cond-true (s == i) b (has old s) (eq-eqb s i e) ∙ (is ∙ sym (ap (in_slot test) (ap (λ k. get_or (set places i place) k None) e ∙ get_or-set_same places i place None low)))
  | inr ne ↦ cond-false (s == i) b (has old s) (ne_eqb s i ne) ∙ (h s l ∙ sym (ap (in_slot test) (get_or-set_other places i s place None ne)))
]

-- an empty slot drives no request
pub undriven_past : (all : Population) (s : ℕ) (q : Request) → device_in all s ≡ None → drives_in all q s ≡ true → ⊥
undriven_past all s q e h = both_ways _ refl (and_parts (not (s == all.active)) false (ap (λ p. not (s == all.active) && in_slot (λ d. asks d q) p) (sym e) ∙ h)).1

-- an entry for each slot: the value of f at the device there, for which P holds
abbrev pub AreEntries : (Option Device → ℕ) → (Option Device → Type 0) → List ℕ → List (Option Device) → Type 0
AreEntries f P entries places = (length entries ≡ SLOTS) × ((s : ℕ) → s < SLOTS → (slice_index entries s ≡ f (get_or places s None)) × P (get_or places s None))

-- the entries of empty slots
pub entries_none : (f : Option Device → ℕ) (P : Option Device → Type 0) → 0 ≡ f None → P None → AreEntries f P (replicate SLOTS 0) no_devices
entries_none f P is holds = (
  length-replicate {A = ℕ} SLOTS 0,
  λ s l. (get_or-replicate SLOTS s 0 0 l ∙ (is ∙ sym (ap f (no_devices_at s))), subst P (sym (no_devices_at s)) holds),
)

-- one entry anew
pub entries_of_put : (f : Option Device → ℕ) (P : Option Device → Type 0) (entries : List ℕ) (places : List (Option Device)) (i : ℕ) (place : Option Device) (entry : ℕ) → i < length places → AreEntries f P entries places → entry ≡ f place → P place
    → i < SLOTS → AreEntries f P (set entries i entry) (set places i place)
entries_of_put f P entries places i place entry low are is holds here = (
  length-set entries i entry ∙ are.0,
  λ s l. elim (cases_eq s i) [
    | inl e ↦
        let there : get_or (set places i place) s None ≡ place = ap (λ k. get_or (set places i place) k None) e ∙ get_or-set_same places i place None low in
        (ap (λ k. slice_index (set entries i entry) k) e ∙ (get_or-set_same entries i entry 0 (omega (arith, are.0, here)) ∙ (is ∙ sym (ap f there))), subst P (sym there) holds)
    | inr ne ↦
        let there : get_or (set places i place) s None ≡ get_or places s None = get_or-set_other places i s place None ne in
        (get_or-set_other entries i s entry 0 ne ∙ ((are.1 s l).0 ∙ sym (ap f there)), subst P (sym there) (are.1 s l).1)
  ],
)

-- the slots of the devices at an address, but the active controller's
pub there_at : (active a : ℕ) (kept : Answering) (places : List (Option Device)) (unaddressed there addressed slots : SlotSet) → a < 128 → DoAnswer kept places → IsSetOf (λ d. is_none d.address) unaddressed places
    → ((s : ℕ) → s < SLOTS → has there s ≡ (slice_index kept.addresses s == a)) → ((s : ℕ) → s < SLOTS → has addressed s ≡ (has there s && not (has unaddressed s)))
    → ((s : ℕ) → s < SLOTS → has slots s ≡ (if s == active then false else has addressed s)) → AreReached active (Some a) slots places
there_at active a kept places unaddressed there addressed slots small are lacks found left but s l =
    but s l ∙ (ap (λ b. if s == active then false else b) (left s l ∙ (λ t. (found s l ∙ ap (λ k. k == a) (are.1 s l)) t && not (lacks s l t))) ∙ go (s == active) (get_or places s None))
  where
    device : (o fixed : Option ℕ) → ((answer_of o fixed == a) && not (is_none o)) ≡ is_the a o
    device (Some b) fixed = and_true (b == a)
    device None (Some f) = and_false (f == a)
    device None None = and_false (NOWHERE == a)

    go : (b : Bool) (o : Option Device) → (if b then false else (answer_in o == a) && not (in_slot (λ d. is_none d.address) o)) ≡ in_slot (λ d. not b && is_the a d.address) o
    go true None = refl
    go true (Some d) = refl
    go false None = ap (λ x. x && true) (ne_eqb NOWHERE a (λ e. omega (arith, e, small)))
    go false (Some d) = device d.address d.fixed

-- the slots of the devices that take SETDASA at a static address: those that answer there without a dynamic address
pub takers_at : (active f : ℕ) (kept : Answering) (places : List (Option Device)) (unaddressed there both slots : SlotSet) → f < 128 → DoAnswer kept places → IsSetOf (λ d. is_none d.address) unaddressed places
    → ((s : ℕ) → s < SLOTS → has there s ≡ (slice_index kept.addresses s == f)) → ((s : ℕ) → s < SLOTS → has both s ≡ (has there s && has unaddressed s))
    → ((s : ℕ) → s < SLOTS → has slots s ≡ (if s == active then false else has both s)) → AreTakers active f slots places
takers_at active f kept places unaddressed there both slots small are lacks found joined but s l =
    but s l ∙ (ap (λ b. if s == active then false else b) (joined s l ∙ (λ t. (found s l ∙ ap (λ k. k == f) (are.1 s l)) t && lacks s l t)) ∙ go (s == active) (get_or places s None))
  where
    device : (o fixed : Option ℕ) → ((answer_of o fixed == f) && is_none o) ≡ (is_none o && is_the f fixed)
    device (Some b) fixed = and_false (b == f)
    device None (Some g) = and_true (g == f)
    device None None = ap (λ x. x && true) (ne_eqb NOWHERE f (λ e. omega (arith, e, small)))

    go : (b : Bool) (o : Option Device) → (if b then false else (answer_in o == f) && in_slot (λ d. is_none d.address) o) ≡ in_slot (λ d. not b && (is_none d.address && is_the f d.fixed)) o
    go true None = refl
    go true (Some d) = refl
    go false None = and_false (NOWHERE == f)
    go false (Some d) = device d.address d.fixed

-- where nobody answers
pub answers_none : (kept : Answering) → kept.addresses ≡ replicate SLOTS NOWHERE → AreFound kept → DoAnswer kept no_devices
answers_none kept none found = (found, λ s l. ap (λ xs. slice_index xs s) none ∙ (get_or-replicate SLOTS s NOWHERE 0 l ∙ sym (ap answer_in (no_devices_at s))))

-- one answer anew
pub answers_of_put : (old new : Answering) (places : List (Option Device)) (i : ℕ) (place : Option Device) (answer : ℕ) → i < length places → DoAnswer old places → answer ≡ answer_in place → i < SLOTS
    → new.addresses ≡ set old.addresses i answer → (AreFound old → AreFound new) → DoAnswer new (set places i place)
answers_of_put old new places i place answer low are is here put found = (
  found are.0,
  λ s l. ap (λ xs. slice_index xs s) put ∙ elim (cases_eq s i) [
    | inl e ↦ ap (λ k. slice_index (set old.addresses i answer) k) e ∙ (get_or-set_same old.addresses i answer 0 (omega (arith, are.0.every, here)) ∙ (is ∙ sym (ap answer_in (ap (λ k. get_or (set places i place) k None) e ∙ get_or-set_same places i place None low))))
    | inr ne ↦ get_or-set_other old.addresses i s answer 0 ne ∙ (are.1 s l ∙ sym (ap answer_in (get_or-set_other places i s place None ne)))
  ],
)

-- a place anew that passes a test as before
pub set_of_same : (test : Device → Bool) (slots : SlotSet) (places : List (Option Device)) (i : ℕ) (place : Option Device) → i < length places → IsSetOf test slots places → in_slot test place ≡ in_slot test (get_or places i None)
    → IsSetOf test slots (set places i place)
set_of_same test slots places i place low h same s l = elim (cases_eq s i) [
  | inl e ↦ h s l ∙ (ap (λ k. in_slot test (get_or places k None)) e ∙ (sym same ∙ sym (ap (in_slot test) (ap (λ k. get_or (set places i place) k None) e ∙ get_or-set_same places i place None low))))
  | inr ne ↦ h s l ∙ sym (ap (in_slot test) (get_or-set_other places i s place None ne))
]

-- and has the same entry
pub entries_of_same : (f : Option Device → ℕ) (P : Option Device → Type 0) (entries : List ℕ) (places : List (Option Device)) (i : ℕ) (place : Option Device) → i < length places → AreEntries f P entries places → f place ≡ f (get_or places i None)
    → (P (get_or places i None) → P place) → AreEntries f P entries (set places i place)
entries_of_same f P entries places i place low are same holds = (
  are.0,
  λ s l. elim (cases_eq s i) [
    | inl e ↦
        let there : get_or (set places i place) s None ≡ place = ap (λ k. get_or (set places i place) k None) e ∙ get_or-set_same places i place None low in
        let before : get_or places s None ≡ get_or places i None = ap (λ k. get_or places k None) e in
        ((are.1 s l).0 ∙ (ap f before ∙ (sym same ∙ sym (ap f there))), subst P (sym there) (holds (subst P before (are.1 s l).1)))
    | inr ne ↦
        let there : get_or (set places i place) s None ≡ get_or places s None = get_or-set_other places i s place None ne in
        ((are.1 s l).0 ∙ sym (ap f there), subst P (sym there) (are.1 s l).1)
  ],
)

-- and answers where it did
pub answers_of_same : (kept : Answering) (places : List (Option Device)) (i : ℕ) (place : Option Device) → i < length places → DoAnswer kept places → answer_in place ≡ answer_in (get_or places i None) → DoAnswer kept (set places i place)
answers_of_same kept places i place low are same = (
  are.0,
  λ s l. elim (cases_eq s i) [
    | inl e ↦ are.1 s l ∙ (ap (λ k. answer_in (get_or places k None)) e ∙ (sym same ∙ sym (ap answer_in (ap (λ k. get_or (set places i place) k None) e ∙ get_or-set_same places i place None low))))
    | inr ne ↦ are.1 s l ∙ sym (ap answer_in (get_or-set_other places i s place None ne))
  ],
)

-- the columns of empty slots
pub columns_none : (kept : BitColumns) → AreTurned kept → HaveColumns kept no_devices
columns_none kept turned = (turned, λ s d there. absurd (none-some d (sym (no_devices_at s) ∙ there)))

-- a device anew, whose number is set
pub columns_of_put : (old new : BitColumns) (places : List (Option Device)) (i : ℕ) (d : Device) (number : ℕ) → i < length places → HaveColumns old places → number ≡ number_of d.identity → IsInRange d.identity → i < SLOTS
    → new.numbers ≡ set old.numbers i number → (AreTurned old → AreTurned new) → HaveColumns new (set places i (Some d))
columns_of_put old new places i d number low are is ranged here put turned = (
  turned are.0,
  λ s e there. elim (cases_eq s i) [
    | inl at ↦
        let own : d ≡ e = same_Some d e (sym (ap (λ k. get_or (set places i (Some d)) k None) at ∙ get_or-set_same places i (Some d) None low) ∙ there) in
        let set_here : slice_index new.numbers s ≡ number = ap (λ xs. slice_index xs s) put ∙ (ap (λ k. slice_index (set old.numbers i number) k) at ∙ get_or-set_same old.numbers i number 0 (omega (arith, are.0.every, here))) in
        subst (λ x. (slice_index new.numbers s ≡ number_of x.identity) × IsInRange x.identity) own (set_here ∙ is, ranged)
    | inr ne ↦
        let before = are.1 s e (sym (get_or-set_other places i s (Some d) None ne) ∙ there) in
        (ap (λ xs. slice_index xs s) put ∙ (get_or-set_other old.numbers i s number 0 ne ∙ before.0), before.1)
  ],
)

-- no device any more
pub columns_of_gone : (kept : BitColumns) (places : List (Option Device)) (i : ℕ) → i < length places → HaveColumns kept places → HaveColumns kept (set places i None)
columns_of_gone kept places i low are = (
  are.0,
  λ s d there. elim (cases_eq s i) [
    | inl e ↦ absurd (none-some d (sym (ap (λ k. get_or (set places i None) k None) e ∙ get_or-set_same places i None None low) ∙ there))
    | inr ne ↦ are.1 s d (sym (get_or-set_other places i s None None ne) ∙ there)
  ],
)

-- the same device or one with the same identity
pub columns_of_same : (kept : BitColumns) (places : List (Option Device)) (i : ℕ) (place : Option Device) → i < length places → HaveColumns kept places → identity_in place ≡ identity_in (get_or places i None) → HaveColumns kept (set places i place)
columns_of_same kept places i place low are same = (
  are.0,
  λ s d there. elim (cases_eq s i) [
    | inl e ↦
        let own : place ≡ Some d = sym (ap (λ k. get_or (set places i place) k None) e ∙ get_or-set_same places i place None low) ∙ there in
        go s d (get_or places i None) (ap (λ k. get_or places k None) e) (sym same ∙ ap identity_in own)
    | inr ne ↦ are.1 s d (sym (get_or-set_other places i s place None ne) ∙ there)
  ],
)
  where
    go : (s : ℕ) (d : Device) (before : Option Device) → get_or places s None ≡ before → identity_in before ≡ Some d.identity → (slice_index kept.numbers s ≡ number_of d.identity) × IsInRange d.identity
    go s d None there is = absurd (none-some d.identity is)
    go s d (Some e) there is = subst (λ (j : Identity). (slice_index kept.numbers s ≡ number_of j) × IsInRange j) (same_Some e.identity d.identity is) (are.1 s e there)

-- the device in a slot is unchanged, except for what a change leaves out
pub record Alike (place before : Option Device) : Type 0 where
  pub present : in_slot (λ d. true) place ≡ in_slot (λ d. true) before
  pub joining : in_slot wishes_join place ≡ in_slot wishes_join before
  pub asking : in_slot wishes_role place ≡ in_slot wishes_role before
  pub unaddressed : in_slot (λ d. is_none d.address) place ≡ in_slot (λ d. is_none d.address) before
  pub key : key_in place ≡ key_in before
  pub dynamic : IsDynamicIn before → IsDynamicIn place
  pub answer : answer_in place ≡ answer_in before
  pub identity : identity_in place ≡ identity_in before

-- where it hears or hears no more
pub alike_opened : (o : Option Device) → Alike (option_map hears o) o
alike_opened None = record { present = refl; joining = refl; asking = refl; unaddressed = refl; key = refl; dynamic = λ x. x; answer = refl; identity = refl }
alike_opened (Some d) = subst (λ (e : Device). Alike (Some e) (Some d)) (sym (rehearing d)) (record { present = refl; joining = refl; asking = refl; unaddressed = refl; key = refl; dynamic = λ x. x; answer = refl; identity = refl })
  where
    rehearing : (d : Device) → hears d ≡ record d { hearing = if is_none d.address then true else d.hearing }
    rehearing d = go (is_none d.address)
      where
        go : (b : Bool) → (if b then record d { hearing = true } else d) ≡ record d { hearing = if b then true else d.hearing }
        go true = refl
        go false = refl

pub alike_ended : (o : Option Device) → Alike (option_map unhearing o) o
alike_ended None = record { present = refl; joining = refl; asking = refl; unaddressed = refl; key = refl; dynamic = λ x. x; answer = refl; identity = refl }
alike_ended (Some d) = record { present = refl; joining = refl; asking = refl; unaddressed = refl; key = refl; dynamic = λ x. x; answer = refl; identity = refl }

pub interrupts_opened : (o : Option Device) → in_slot wishes_interrupt (option_map hears o) ≡ in_slot wishes_interrupt o
interrupts_opened None = refl
interrupts_opened (Some d) = go (is_none d.address)
  where
    go : (b : Bool) → wishes_interrupt (if b then record d { hearing = true } else d) ≡ wishes_interrupt d
    go true = refl
    go false = refl

pub interrupts_ended : (o : Option Device) → in_slot wishes_interrupt (option_map unhearing o) ≡ in_slot wishes_interrupt o
interrupts_ended None = refl
interrupts_ended (Some d) = refl

-- where other interrupts wait
pub alike_queued : (queue : Device → List Waiting) (o : Option Device) → Alike (option_map (requeued queue) o) o
alike_queued queue None = record { present = refl; joining = refl; asking = refl; unaddressed = refl; key = refl; dynamic = λ x. x; answer = refl; identity = refl }
alike_queued queue (Some d) = record { present = refl; joining = refl; asking = refl; unaddressed = refl; key = refl; dynamic = λ x. x; answer = refl; identity = refl }

pub hearing_queued : (queue : Device → List Waiting) (o : Option Device) → in_slot (λ d. d.hearing) (option_map (requeued queue) o) ≡ in_slot (λ d. d.hearing) o
hearing_queued queue None = refl
hearing_queued queue (Some d) = refl

-- the marks after the device in a slot begins or ends to hear, with the same interrupts
pub marks_heard : (marks more : SlotIndex) (places : List (Option Device)) (i : ℕ) (place : Option Device) (b : Bool) → length places ≡ SLOTS → i < SLOTS → AreMarks marks places → Alike place (get_or places i None)
    → in_slot wishes_interrupt place ≡ in_slot wishes_interrupt (get_or places i None) → b ≡ in_slot (λ d. d.hearing) place → more ≡ record marks { hearing = more.hearing }
    → ((s : ℕ) → s < SLOTS → has more.hearing s ≡ (if s == i then b else has marks.hearing s)) → AreMarks more (set places i place)
marks_heard marks more places i place b long here are alike interrupts is rest put =
    let low : i < length places = omega (arith, here, long) in
    subst (λ (m : SlotIndex). AreMarks m (set places i place)) (sym rest) (record {
      present = set_of_same (λ d. true) marks.present places i place low are.present alike.present;
      joining = set_of_same wishes_join marks.joining places i place low are.joining alike.joining;
      asking = set_of_same wishes_role marks.asking places i place low are.asking alike.asking;
      interrupting = set_of_same wishes_interrupt marks.interrupting places i place low are.interrupting interrupts;
      hearing = set_of_put (λ d. d.hearing) marks.hearing more.hearing places i place b low are.hearing is put;
      unaddressed = set_of_same (λ d. is_none d.address) marks.unaddressed places i place low are.unaddressed alike.unaddressed;
      keys = entries_of_same key_in IsDynamicIn marks.keys places i place low are.keys alike.key alike.dynamic;
      answering = answers_of_same marks.answering places i place low are.answering alike.answer;
      columns = columns_of_same marks.columns places i place low are.columns alike.identity;
    })

-- the marks where other interrupts wait
pub marks_queued : (marks more : SlotIndex) (places : List (Option Device)) (i : ℕ) (place : Option Device) (b : Bool) → length places ≡ SLOTS → i < SLOTS → AreMarks marks places → Alike place (get_or places i None)
    → in_slot (λ d. d.hearing) place ≡ in_slot (λ d. d.hearing) (get_or places i None) → b ≡ in_slot wishes_interrupt place → more ≡ record marks { interrupting = more.interrupting }
    → ((s : ℕ) → s < SLOTS → has more.interrupting s ≡ (if s == i then b else has marks.interrupting s)) → AreMarks more (set places i place)
marks_queued marks more places i place b long here are alike hearing is rest put =
    let low : i < length places = omega (arith, here, long) in
    subst (λ (m : SlotIndex). AreMarks m (set places i place)) (sym rest) (record {
      present = set_of_same (λ d. true) marks.present places i place low are.present alike.present;
      joining = set_of_same wishes_join marks.joining places i place low are.joining alike.joining;
      asking = set_of_same wishes_role marks.asking places i place low are.asking alike.asking;
      interrupting = set_of_put wishes_interrupt marks.interrupting more.interrupting places i place b low are.interrupting is put;
      hearing = set_of_same (λ d. d.hearing) marks.hearing places i place low are.hearing hearing;
      unaddressed = set_of_same (λ d. is_none d.address) marks.unaddressed places i place low are.unaddressed alike.unaddressed;
      keys = entries_of_same key_in IsDynamicIn marks.keys places i place low are.keys alike.key alike.dynamic;
      answering = answers_of_same marks.answering places i place low are.answering alike.answer;
      columns = columns_of_same marks.columns places i place low are.columns alike.identity;
    })
