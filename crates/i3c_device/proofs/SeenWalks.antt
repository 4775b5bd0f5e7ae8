-- Walks over devices as they are seen with their kinds.
use Rattle.std.proofs.Common.{◌≡◌, ℕ, ◌+◌, ◌-◌, ◌*◌, ◌<◌, ◌↔◌, ◌⊎◌, slice_index, Bool, true, false, not, ◌&&◌, ◌||◌, ◌==◌, if◌then◌else◌, List, length, get_or, Option, Some, None, Result, Ok, Err, IsTrue, MatchOption, OnErr, OnOk, option_map, is_none, is_some, inl, inr, refl, sym, ap, subst, ◌∙◌, arith}
use Rattle.std.proofs.lemmas.Bool.{and_parts, both_ways, cases_Bool, cases_lt, false_from_ne_true, or_left, or_right}
use Rattle.std.proofs.lemmas.List.{get_or_past}
use Rattle.std.proofs.lemmas.Option.{none-some, same_Some}
use Rattle.std.specs.Int.{bit_at}
use Rattle.i3c_base.specs.declared.range.TheConstants.{SLOTS}
use Rattle.i3c_base.specs.declared.refusals.RaiseRefusal.{RaiseRefusal}
use Rattle.i3c_base.specs.declared.requests.Request.{Request}
use Rattle.i3c_base.specs.declared.requests.Request.TheVariants.{Interrupt, Join, Role}
use Rattle.i3c_base.specs.Cutting.{CutList, Lost, lost_by}
use Rattle.i3c_base.specs.Frames.{takes_static, with_kinds, without_kinds, told_bytes, reaches_at, AreWillingLost, IsHeardIn, SomeUnaddressedLeftIn, IsLowestWilling}
use Rattle.i3c_base.specs.Numbers.{KindSet}
use Rattle.i3c_base.specs.Places.{changed}
use Rattle.i3c_base.specs.Serve.{asks, is_empty}
use Rattle.i3c_base.specs.State.{Device, in_slot, is_the, Population, device_in, with_active}
use Rattle.i3c_word.specs.declared.Word.{Word}
use Rattle.i3c_ccc.specs.declared.codes.Code.{Code}
use Rattle.i3c_base.specs.declared.datum.Datum.{Datum}
use Rattle.i3c_base.specs.declared.datum.Direction.{Direction}
use Rattle.i3c_ccc.specs.declared.codes.Code.TheVariants.{Deftgts, Disec, DisecDirect, Enec, EnecDirect, Get, Getacccr, Other, SetLength, SetLengthDirect, Setdasa, Setnewda}
use Rattle.i3c_device.specs.declared.enabled.Enabled.{Enabled}
use Rattle.i3c_device.specs.declared.slot_index.SlotIndex.{SlotIndex}
use Rattle.i3c_device.specs.declared.slot_set.SlotSet.{SlotSet}
use Rattle.i3c_device.specs.Enabling.{kinds_in, seen, seen_in, under}
use Rattle.i3c_device.specs.Finding.{IsLowestFound, IsNowhere, within}
use Rattle.i3c_device.specs.Hearing.{named_kinds}
use Rattle.i3c_device.specs.Holding.{address_in, byte_in, front_in, identity_in, waiting_in}
use Rattle.i3c_device.specs.SlotIndex.{AreMarks, IsSetOf}
use Rattle.i3c_device.specs.Raising.{interrupting_if, next_fault}
use Rattle.i3c_device.specs.Reading.{AreBytesOf, Driving, PullsLow, registers_of}
use Rattle.i3c_device.specs.Sets.{SomeLeft, has}
use Rattle.i3c_device.specs.Walks.{AreReached, AreTakers, heard_at, willing_at}
use Rattle.i3c_device.specs.Wishing.{asks_some, wishes_interrupt, wishes_join, wishes_role}
use Rattle.i3c_device.proofs.EachLaws.{all_changed, narrowed}
use Rattle.i3c_device.proofs.SeenLaws.{length_seen, seen_at, seen_turned}
use Rattle.i3c_device.proofs.Targets.{SomePasses, found_willing, heard_passes, passes_heard, passes_takes, takes_passes, willing_found}

-- what holds where a call went well
pub on_ok : {A B : Type 0} (r : Result A B) (P Q : Type 0) → (P → Q) → OnOk r P → OnOk r Q
on_ok (Ok a) P Q f h = f h
on_ok (Err e) P Q f h = h

pub on_err : {A B : Type 0} (r : Result A B) (P Q : Type 0) → (P → Q) → OnErr r P → OnErr r Q
on_err (Ok a) P Q f h = h
on_err (Err e) P Q f h = f h

-- as many slots
pub slots_seen : (e : Enabled) (xs now : List (Option Device)) → length xs ≡ SLOTS → seen e xs ≡ now → length now ≡ SLOTS
slots_seen e xs now long is = sym (ap length is) ∙ (length_seen e xs ∙ long)

pub now_at : (e : Enabled) (xs now : List (Option Device)) (s : ℕ) → seen e xs ≡ now → get_or now s None ≡ seen_in e s (get_or xs s None)
now_at e xs now s is = ap (λ ys. get_or ys s None) (sym is) ∙ seen_at e xs s

-- a slot's device with the kinds of the slot, and an empty slot
pub single_seen : (e : Enabled) (xs now : List (Option Device)) (s i : ℕ) (place : Option Device) (d x : Device) (kinds : KindSet) → seen e xs ≡ now → place ≡ get_or xs s None → place ≡ Some d → x ≡ d → i ≡ s → kinds ≡ kinds_in e i
    → Some (under kinds x) ≡ get_or now s None
single_seen e xs now s i place d x kinds is at there same here own = (λ t. Some (under ((own ∙ ap (kinds_in e) here) t) (same t))) ∙ (ap (seen_in e s) (sym there ∙ at) ∙ sym (now_at e xs now s is))

pub nobody_seen : (e : Enabled) (xs now : List (Option Device)) (s : ℕ) (place : Option Device) → seen e xs ≡ now → place ≡ get_or xs s None → place ≡ None → None ≡ get_or now s None
nobody_seen e xs now s place is at none = ap (seen_in e s) (sym none ∙ at) ∙ sym (now_at e xs now s is)

-- an answer that no kind changes
pub asked_seen : {A : Type 0} (f : Option Device → A) (e : Enabled) (xs now : List (Option Device)) (s : ℕ) → seen e xs ≡ now → ((kinds : KindSet) (o : Option Device) → f (option_map (under kinds) o) ≡ f o) → f (get_or now s None) ≡ f (get_or xs s None)
asked_seen f e xs now s is alike = ap f (now_at e xs now s is) ∙ alike (kinds_in e s) (get_or xs s None)

pub identity_alike : (kinds : KindSet) (o : Option Device) → identity_in (option_map (under kinds) o) ≡ identity_in o
identity_alike kinds None = refl
identity_alike kinds (Some d) = refl

pub address_alike : (kinds : KindSet) (o : Option Device) → address_in (option_map (under kinds) o) ≡ address_in o
address_alike kinds None = refl
address_alike kinds (Some d) = refl

pub waiting_alike : (kinds : KindSet) (o : Option Device) → waiting_in (option_map (under kinds) o) ≡ waiting_in o
waiting_alike kinds None = refl
waiting_alike kinds (Some d) = refl

pub front_alike : (kinds : KindSet) (o : Option Device) → front_in (option_map (under kinds) o) ≡ front_in o
front_alike kinds None = refl
front_alike kinds (Some d) = refl

pub byte_alike : (kinds : KindSet) (o : Option Device) → byte_in (option_map (under kinds) o) ≡ byte_in o
byte_alike kinds None = refl
byte_alike kinds (Some d) = refl

-- a device that is seen is there
pub unseen : (e : Enabled) (s : ℕ) (o : Option Device) (d : Device) → seen_in e s o ≡ Some d → (x : Device) × (o ≡ Some x) × (d ≡ under (kinds_in e s) x)
unseen e s None d h = absurd (none-some d h)
unseen e s (Some x) d h = (x, refl, sym (same_Some (under (kinds_in e s) x) d h))

pub there_seen : (e : Enabled) (xs now : List (Option Device)) (s : ℕ) → seen e xs ≡ now → ((d : Device) × (get_or now s None ≡ Some d)) → (x : Device) × (get_or xs s None ≡ Some x)
there_seen e xs now s is h = let u = unseen e s (get_or xs s None) h.0 (sym (now_at e xs now s is) ∙ h.1) in (u.0, u.1)

-- a fault of a raise, whose interrupts are enabled where the slot's are
pub fault_seen : (e : Enabled) (xs now : List (Option Device)) (s : ℕ) (b : Bool) (byte : Option ℕ) (raised : ℕ) (Q : Option RaiseRefusal → Type 0) → seen e xs ≡ now → b ≡ has e.interrupts s
    → ((x : Device) → get_or xs s None ≡ Some x → Q (next_fault (interrupting_if b x) byte raised)) → (d : Device) → get_or now s None ≡ Some d → Q (next_fault d byte raised)
fault_seen e xs now s b byte raised Q is same h d there =
    let u = unseen e s (get_or xs s None) d (sym (now_at e xs now s is) ∙ there) in
    subst Q (ap (λ on. next_fault (interrupting_if on u.0) byte raised) same ∙ ap (λ x. next_fault x byte raised) (sym u.2)) (h u.0 u.1)

-- a test of a device, its slot and no kinds
test_seen : (e : Enabled) (test : Device → Bool) (s : ℕ) (o : Option Device) → ((kinds : KindSet) (d : Device) → test (under kinds d) ≡ test d) → in_slot test (seen_in e s o) ≡ in_slot test o
test_seen e test s None blind = refl
test_seen e test s (Some d) blind = blind (kinds_in e s) d

-- the devices that a command reaches
pub reached_all : (e : Enabled) (xs now : List (Option Device)) (active : ℕ) (present slots : SlotSet) → seen e xs ≡ now → IsSetOf (λ d. true) present xs
    → ((s : ℕ) → s < SLOTS → has slots s ≡ (if s == active then false else has present s)) → AreReached active None slots now
reached_all e xs now active present slots is of but s l =
    but s l ∙ (ap (λ b. if s == active then false else b) (of s l) ∙ (go (s == active) (get_or xs s None) ∙ ap (in_slot (λ d. not (s == active))) (sym (now_at e xs now s is))))
  where
    go : (b : Bool) (o : Option Device) → (if b then false else in_slot (λ d. true) o) ≡ in_slot (λ d. not b) (seen_in e s o)
    go true None = refl
    go true (Some d) = refl
    go false None = refl
    go false (Some d) = refl

pub reached_one : (e : Enabled) (xs now : List (Option Device)) (active a : ℕ) (slots : SlotSet) → seen e xs ≡ now → AreReached active (Some a) slots xs → AreReached active (Some a) slots now
reached_one e xs now active a slots is of s l = of s l ∙ sym (ap (in_slot (reaches_at active (Some a) s)) (now_at e xs now s is) ∙ test_seen e (reaches_at active (Some a) s) s (get_or xs s None) (λ kinds d. refl))

-- the devices that take SETDASA
pub takers_seen : (e : Enabled) (xs now : List (Option Device)) (active f : ℕ) (slots : SlotSet) → seen e xs ≡ now → AreTakers active f slots xs → AreTakers active f slots now
takers_seen e xs now active f slots is of s l = of s l ∙ sym (ap (in_slot (takes_static active f s)) (now_at e xs now s is) ∙ test_seen e (takes_static active f s) s (get_or xs s None) (λ kinds d. refl))

-- that somebody of them isn't lost
there_in : (test : Device → Bool) (o : Option Device) → in_slot test o ≡ true → (d : Device) × (o ≡ Some d) × (test d ≡ true)
there_in test None h = absurd (both_ways _ refl h)
there_in test (Some d) h = (d, refl, h)

within_slots : (now : List (Option Device)) (s : ℕ) (d : Device) → length now ≡ SLOTS → get_or now s None ≡ Some d → s < SLOTS
within_slots now s d long there = elim (cases_lt s SLOTS) [
  | inl l ↦ l
  | inr past ↦ absurd (none-some d (sym (get_or_past now s None (omega (arith, long, past))) ∙ there))
]

passes_some : (test : ℕ → Device → Bool) (slots : SlotSet) (lost : Lost) (all : Population) (b : Bool) → length all.devices ≡ SLOTS → ((s : ℕ) → s < SLOTS → has slots s ≡ in_slot (test s) (device_in all s))
    → (IsTrue b ↔ SomeLeft slots lost) → (IsTrue b ↔ SomePasses test lost all)
passes_some test slots lost all b long passes is = (
  λ t. let left = is.0 t in let there = there_in (test left.0) (device_in all left.0) (sym (passes left.0 left.1) ∙ left.2) in (left.0, there.0, there.1, there.2, left.3),
  λ some. let l = within_slots all.devices some.0 some.1 long some.2 in is.1 (some.0, l, passes some.0 l ∙ (ap (in_slot (test some.0)) some.2 ∙ some.3), some.4),
)

pub heard_some : (all : Population) (to : Option ℕ) (slots : SlotSet) (lost : Lost) (b : Bool) → length all.devices ≡ SLOTS → AreReached all.active to slots all.devices → (IsTrue b ↔ SomeLeft slots lost)
    → (IsTrue b ↔ IsHeardIn all to lost)
heard_some all to slots lost b long are is =
    let passes = passes_some (reaches_at all.active to) slots lost all b long are is in
    (λ t. passes_heard all to lost (passes.0 t), λ heard. passes.1 (heard_passes all to lost heard))

pub takes_some : (all : Population) (f : ℕ) (slots : SlotSet) (lost : Lost) (b : Bool) → length all.devices ≡ SLOTS → AreTakers all.active f slots all.devices → (IsTrue b ↔ SomeLeft slots lost)
    → (IsTrue b ↔ SomeUnaddressedLeftIn all f lost)
takes_some all f slots lost b long are is =
    let passes = passes_some (takes_static all.active f) slots lost all b long are is in
    (λ t. passes_takes all f lost (passes.0 t), λ some. passes.1 (takes_passes all f lost some))

-- the devices that would take the role
willing_now : (e : Enabled) (xs now : List (Option Device)) (active a s : ℕ) → seen e xs ≡ now → willing_at active a s (get_or now s None) ≡ willing_at active a s (get_or xs s None)
willing_now e xs now active a s is =
    ap (willing_at active a s) (now_at e xs now s is) ∙ test_seen e (λ d. reaches_at active (Some a) s d && d.willing) s (get_or xs s None) (λ kinds d. refl)

willing_among : (xs : List (Option Device)) (active a s : ℕ) (present left : SlotSet) (lost : Lost) → length xs ≡ SLOTS → IsSetOf (λ d. true) present xs → ((t : ℕ) → t < SLOTS → has left t ≡ (has present t && not (lost t)))
    → willing_at active a s (get_or xs s None) ≡ true → lost s ≡ false → (s < SLOTS) × (has left s ≡ true)
willing_among xs active a s present left lost long of but w n =
    let there = there_in (λ d. reaches_at active (Some a) s d && d.willing) (get_or xs s None) w in
    let l = within_slots xs s there.0 long there.1 in
    (l, but s l ∙ (ap (λ b. b && not (lost s)) (of s l ∙ ap (in_slot (λ d. true)) there.1) ∙ ap not n))

pub willing_seen : (e : Enabled) (xs now : List (Option Device)) (active a : ℕ) (present left : SlotSet) (lost : Lost) (found : Option ℕ) → length xs ≡ SLOTS → seen e xs ≡ now → IsSetOf (λ d. true) present xs
    → ((t : ℕ) → t < SLOTS → has left t ≡ (has present t && not (lost t))) → MatchOption found (IsNowhere (willing_at active a) left xs) (IsLowestFound (willing_at active a) left xs)
    → MatchOption found (AreWillingLost (with_active now active) a lost) (IsLowestWilling (with_active now active) a lost)
willing_seen e xs now active a present left lost None long is of but h = λ s w. elim (cases_Bool (lost s)) [
  | inl t ↦ t
  | inr n ↦
      let w2 = sym (willing_now e xs now active a s is) ∙ willing_found (with_active now active) a s w in
      let there = willing_among xs active a s present left lost long of but w2 n in
      absurd (both_ways _ (h s there.0 there.1) w2)
]
willing_seen e xs now active a present left lost (Some i) long is of but h = (
  found_willing (with_active now active) a i (willing_now e xs now active a i is ∙ h.found),
  not_lost,
  λ t l w. elim (cases_Bool (lost t)) [
    | inl y ↦ y
    | inr n ↦
        let w2 = sym (willing_now e xs now active a t is) ∙ willing_found (with_active now active) a t w in
        let there = willing_among xs active a t present left lost long of but w2 n in
        absurd (both_ways _ (h.below t l there.1) w2)
  ],
)
  where
    low : i < SLOTS
    low = let there = there_in (λ d. reaches_at active (Some a) i d && d.willing) (get_or xs i None) h.found in within_slots xs i there.0 long there.1

    not_lost : lost i ≡ false
    not_lost = let kept = (and_parts (has present i) (not (lost i)) (sym (but i low) ∙ h.among_them)).1 in false_from_ne_true (lost i) (λ t. both_ways _ (ap not t) kept)

-- a command that enables or disables kinds
kinds_of_heard : (e more : Enabled) (f : KindSet → KindSet) (active : ℕ) (to : Option ℕ) (slots : SlotSet) (s : ℕ) (o : Option Device) → kinds_in more s ≡ (if has slots s then f (kinds_in e s) else kinds_in e s)
    → has slots s ≡ in_slot (reaches_at active to s) (seen_in e s o) → seen_in more s o ≡ option_map (λ d. if reaches_at active to s d then under (f d.kinds) d else d) (seen_in e s o)
kinds_of_heard e more f active to slots s None is reached = refl
kinds_of_heard e more f active to slots s (Some d) is reached =
    ap (λ kinds. Some (under kinds d)) (is ∙ ap (λ b. if b then f (kinds_in e s) else kinds_in e s) reached) ∙ go (reaches_at active to s (under (kinds_in e s) d))
  where
    go : (b : Bool) → Some (under (if b then f (kinds_in e s) else kinds_in e s) d) ≡ Some (if b then under (f (kinds_in e s)) d else under (kinds_in e s) d)
    go true = refl
    go false = refl

pub kinds_heard : (e more : Enabled) (f : KindSet → KindSet) (active : ℕ) (to : Option ℕ) (slots : SlotSet) (xs now : List (Option Device)) → length xs ≡ SLOTS → seen e xs ≡ now → AreReached active to slots now
    → ((s : ℕ) → s < SLOTS → kinds_in more s ≡ (if has slots s then f (kinds_in e s) else kinds_in e s)) → seen more xs ≡ changed (λ s place. option_map (λ d. if reaches_at active to s d then under (f d.kinds) d else d) place) now
kinds_heard e more f active to slots xs now long is reached anew =
    seen_turned e more (λ s place. option_map (λ d. if reaches_at active to s d then under (f d.kinds) d else d) place) xs xs long long
    (λ s l. kinds_of_heard e more f active to slots s (get_or xs s None) (anew s l) (reached s l ∙ ap (in_slot (reaches_at active to s)) (now_at e xs now s is)))
    ∙ ap (changed (λ s place. option_map (λ d. if reaches_at active to s d then under (f d.kinds) d else d) place)) is

-- the devices that pass the test of their slot are changed
passing_alike : (h : Device → Device) (test : ℕ → Device → Bool) (slots : SlotSet) (s : ℕ) (o : Option Device) → has slots s ≡ in_slot (test s) o
    → within slots (λ k place. option_map h place) s o ≡ option_map (λ d. if test s d then h d else d) o
passing_alike h test slots s None e = elim (has slots s) as (λ b. ◌≡◌ {A = Option Device} (if b then None else None) None) [ true ↦ refl | false ↦ refl ]
passing_alike h test slots s (Some d) e = ap (λ b. if b then Some (h d) else Some d) e ∙ go (test s d)
  where
    go : (b : Bool) → (if b then Some (h d) else Some d) ≡ Some (if b then h d else d)
    go true = refl
    go false = refl

-- a command that changes the devices that it reaches
pub reached_alike : (h : Device → Device) (active : ℕ) (to : Option ℕ) (slots : SlotSet) (s : ℕ) (o : Option Device) → has slots s ≡ in_slot (reaches_at active to s) o
    → within slots (λ k place. option_map h place) s o ≡ option_map (λ d. if reaches_at active to s d then h d else d) o
reached_alike h active to = passing_alike h (reaches_at active to)

-- these slots are changed, whose devices are those that pass the test
pub passing_changed : (h : Device → Device) (test : ℕ → Device → Bool) (slots : SlotSet) (now more : List (Option Device)) → length now ≡ SLOTS → ((s : ℕ) → s < SLOTS → has slots s ≡ in_slot (test s) (get_or now s None))
    → more ≡ changed (within slots (λ k place. option_map h place)) now → more ≡ changed (λ s place. option_map (λ d. if test s d then h d else d) place) now
passing_changed h test slots now more long are is =
    narrowed (λ k place. option_map h place) (λ s place. option_map (λ d. if test s d then h d else d) place) slots now more long is (λ s l. passing_alike h test slots s (get_or now s None) (are s l))

-- a command that changes nobody
pub unheard : (active : ℕ) (to : Option ℕ) (now : List (Option Device)) → now ≡ changed (λ s place. option_map (λ d. if reaches_at active to s d then d else d) place) now
unheard active to now = all_changed (λ s place. option_map (λ d. if reaches_at active to s d then d else d) place) now now refl (λ s l. go s (get_or now s None))
  where
    same : (b : Bool) (d : Device) → d ≡ (if b then d else d)
    same true d = refl
    same false d = refl

    go : (s : ℕ) (o : Option Device) → o ≡ option_map (λ d. if reaches_at active to s d then d else d) o
    go s None = refl
    go s (Some d) = ap Some (same (reaches_at active to s d) d)

-- a driver of a request asks for something
there : (a : ℕ) (o : Option ℕ) → is_the a o ≡ true → is_some o ≡ true
there a None e = absurd (both_ways _ refl e)
there a (Some b) e = refl

pub and_join : (a b : Bool) → a ≡ true → b ≡ true → (a && b) ≡ true
and_join a b p q = ap (λ x. x && b) p ∙ q

pub asked_of : (d : Device) (r : Request) → asks d r ≡ true → asks_some d ≡ true
asked_of d Join h =
    let p = and_parts (is_none d.address) (d.join_wish && d.kinds.join) h in
    let q = and_parts d.join_wish d.kinds.join p.1 in
    or_left (wishes_join d && d.kinds.join) ((wishes_role d && d.kinds.role) || (wishes_interrupt d && d.kinds.interrupt)) (and_join (wishes_join d) d.kinds.join (and_join (is_none d.address) d.join_wish p.0 q.0) q.1)
asked_of d (Role a) h =
    let p = and_parts (is_the a d.address) (d.role_wish && d.kinds.role) h in
    let q = and_parts d.role_wish d.kinds.role p.1 in
    or_right (wishes_join d && d.kinds.join) ((wishes_role d && d.kinds.role) || (wishes_interrupt d && d.kinds.interrupt))
    (or_left (wishes_role d && d.kinds.role) (wishes_interrupt d && d.kinds.interrupt) (and_join (wishes_role d) d.kinds.role (and_join (is_some d.address) d.role_wish (there a d.address p.0) q.0) q.1))
asked_of d (Interrupt a) h =
    let p = and_parts (is_the a d.address) (not d.role_wish && (not (is_empty d.waiting) && d.kinds.interrupt)) h in
    let q = and_parts (not d.role_wish) (not (is_empty d.waiting) && d.kinds.interrupt) p.1 in
    let r = and_parts (not (is_empty d.waiting)) d.kinds.interrupt q.1 in
    or_right (wishes_join d && d.kinds.join) ((wishes_role d && d.kinds.role) || (wishes_interrupt d && d.kinds.interrupt))
    (or_right (wishes_role d && d.kinds.role) (wishes_interrupt d && d.kinds.interrupt)
    (and_join (wishes_interrupt d) d.kinds.interrupt (and_join (is_some d.address) (not d.role_wish && not (is_empty d.waiting)) (there a d.address p.0) (and_join (not d.role_wish) (not (is_empty d.waiting)) q.0 r.0)) r.1))

pub asking_seen : (e : Enabled) (marks : SlotIndex) (xs now : List (Option Device)) (active s : ℕ) (joins roles interrupts more all result : SlotSet) → seen e xs ≡ now → AreMarks marks xs → s < SLOTS
    → has joins s ≡ (has marks.joining s && has e.joins s) → has roles s ≡ (has marks.asking s && has e.roles s) → has interrupts s ≡ (has marks.interrupting s && has e.interrupts s)
    → has more s ≡ (has roles s || has interrupts s) → has all s ≡ (has joins s || has more s) → has result s ≡ (if s == active then false else has all s)
    → has result s ≡ (not (s == active) && in_slot asks_some (get_or now s None))
asking_seen e marks xs now active s joins roles interrupts more all result is are l j r i m a but =
    but ∙ (ap (λ b. if s == active then false else b) (a ∙ (λ t. (j ∙ ap (λ b. b && has e.joins s) (are.joining s l)) t || (m ∙ (λ u. (r ∙ ap (λ b. b && has e.roles s) (are.asking s l)) u || (i ∙ ap (λ b. b && has e.interrupts s) (are.interrupting s l)) u)) t))
    ∙ (go (s == active) (get_or xs s None) ∙ ap (λ o. not (s == active) && in_slot asks_some o) (sym (now_at e xs now s is))))
  where
    go : (b : Bool) (o : Option Device)
        → (if b then false else (in_slot wishes_join o && has e.joins s) || ((in_slot wishes_role o && has e.roles s) || (in_slot wishes_interrupt o && has e.interrupts s)))
        ≡ (not b && in_slot asks_some (seen_in e s o))
    go true o = refl
    go false None = refl
    go false (Some d) = refl

-- the commands by their codes
pub unseen_slots : (e : Enabled) (xs now : List (Option Device)) → length now ≡ SLOTS → seen e xs ≡ now → length xs ≡ SLOTS
unseen_slots e xs now long is = sym (length_seen e xs) ∙ (ap length is ∙ long)

pub enabled_alike : (active : ℕ) (to : Option ℕ) (code : Code) (words : List Word) (kinds : KindSet) (now : List (Option Device)) → kinds ≡ named_kinds words → (code ≡ Enec) ⊎ (code ≡ EnecDirect)
    → changed (λ s place. option_map (λ d. if reaches_at active to s d then under (with_kinds d.kinds kinds) d else d) place) now ≡ changed (heard_at active to code words) now
enabled_alike active to code words kinds now named (inl e) =
    ap (λ k. changed (λ s place. option_map (λ d. if reaches_at active to s d then under (with_kinds d.kinds k) d else d) place) now) named ∙ ap (λ c. changed (heard_at active to c words) now) (sym e)
enabled_alike active to code words kinds now named (inr e) =
    ap (λ k. changed (λ s place. option_map (λ d. if reaches_at active to s d then under (with_kinds d.kinds k) d else d) place) now) named ∙ ap (λ c. changed (heard_at active to c words) now) (sym e)

pub disabled_alike : (active : ℕ) (to : Option ℕ) (code : Code) (words : List Word) (kinds : KindSet) (now : List (Option Device)) → kinds ≡ named_kinds words → (code ≡ Disec) ⊎ (code ≡ DisecDirect)
    → changed (λ s place. option_map (λ d. if reaches_at active to s d then under (without_kinds d.kinds kinds) d else d) place) now ≡ changed (heard_at active to code words) now
disabled_alike active to code words kinds now named (inl e) =
    ap (λ k. changed (λ s place. option_map (λ d. if reaches_at active to s d then under (without_kinds d.kinds k) d else d) place) now) named ∙ ap (λ c. changed (heard_at active to c words) now) (sym e)
disabled_alike active to code words kinds now named (inr e) =
    ap (λ k. changed (λ s place. option_map (λ d. if reaches_at active to s d then under (without_kinds d.kinds k) d else d) place) now) named ∙ ap (λ c. changed (heard_at active to c words) now) (sym e)

pub unheard_alike : (active : ℕ) (to : Option ℕ) (code : Code) (words : List Word) (now : List (Option Device))
    → (code ≡ Deftgts) ⊎ (((what : Datum) × (code ≡ Get what)) ⊎ ((code ≡ Getacccr) ⊎ ((byte : ℕ) × (code ≡ Other byte)))) → now ≡ changed (heard_at active to code words) now
unheard_alike active to code words now (inl e) = unheard active to now ∙ ap (λ c. changed (heard_at active to c words) now) (sym e)
unheard_alike active to code words now (inr (inl e)) = unheard active to now ∙ ap (λ c. changed (heard_at active to c words) now) (sym e.1)
unheard_alike active to code words now (inr (inr (inl e))) = unheard active to now ∙ ap (λ c. changed (heard_at active to c words) now) (sym e)
unheard_alike active to code words now (inr (inr (inr e))) = unheard active to now ∙ ap (λ c. changed (heard_at active to c words) now) (sym e.1)

-- a kind that is enabled for the slot's device
pub kind_there : (e : Enabled) (xs now : List (Option Device)) (kind : KindSet → Bool) (present own both : SlotSet) (s : ℕ) → seen e xs ≡ now → IsSetOf (λ d. true) present xs → has own s ≡ kind (kinds_in e s)
    → has both s ≡ (has present s && has own s) → s < SLOTS → has both s ≡ in_slot (λ d. kind d.kinds) (get_or now s None)
kind_there e xs now kind present own both s is of enables joined l =
    joined ∙ ((λ t. of s l t && enables t) ∙ (go (get_or xs s None) ∙ ap (in_slot (λ d. kind d.kinds)) (sym (now_at e xs now s is))))
  where
    go : (o : Option Device) → (in_slot (λ d. true) o && kind (kinds_in e s)) ≡ in_slot (λ d. kind d.kinds) (seen_in e s o)
    go None = refl
    go (Some d) = refl

-- what a device drives doesn't depend on its enabled kinds
abbrev pub IsBlind : Driving → Type 0
IsBlind own = (kinds : KindSet) (d : Device) → own (under kinds d) ≡ own d

pub registers_blind : IsBlind registers_of
registers_blind kinds d = refl

pub told_blind : (what : Datum) → IsBlind (told_bytes what)
told_blind Datum.Pid kinds d = refl
told_blind Datum.Bcr kinds d = refl
told_blind Datum.Dcr kinds d = refl
told_blind Datum.Status kinds d = refl
told_blind Datum.WriteLength kinds d = refl
told_blind Datum.ReadLength kinds d = refl
told_blind Datum.Speed kinds d = refl
told_blind Datum.Capabilities kinds d = refl

-- bytes as they are read
pulls_seen : (own : Driving) → IsBlind own → (e : Enabled) (xs now : List (Option Device)) (active a : ℕ) (lost : Lost) (k bit : ℕ) → seen e xs ≡ now → PullsLow own (with_active xs active) a lost k bit
    → PullsLow own (with_active now active) a lost k bit
pulls_seen own blind e xs now active a lost k bit is h =
    (h.0, under (kinds_in e h.0) h.1, (now_at e xs now h.0 is ∙ ap (seen_in e h.0) h.2.0, h.2.1, h.2.2), h.3, ap (λ bytes. bit_at (slice_index bytes k) bit) (blind (kinds_in e h.0) h.1) ∙ h.4)

seen_pulls : (own : Driving) → IsBlind own → (e : Enabled) (xs now : List (Option Device)) (active a : ℕ) (lost : Lost) (k bit : ℕ) → seen e xs ≡ now → PullsLow own (with_active now active) a lost k bit
    → PullsLow own (with_active xs active) a lost k bit
seen_pulls own blind e xs now active a lost k bit is h =
    let u = unseen e h.0 (get_or xs h.0 None) h.1 (sym (now_at e xs now h.0 is) ∙ h.2.0) in
    (h.0, u.0, (u.1, ap (λ (d : Device). d.address) (sym u.2) ∙ h.2.1, h.2.2), h.3, sym (ap (λ bytes. bit_at (slice_index bytes k) bit) (ap own u.2 ∙ blind (kinds_in e h.0) u.0)) ∙ h.4)

pub read_seen : (own : Driving) → IsBlind own → (e : Enabled) (xs now : List (Option Device)) (count active a : ℕ) (cuts : CutList) (first : ℕ) (bytes : List ℕ) → seen e xs ≡ now
    → AreBytesOf own count (with_active xs active) a cuts first bytes → AreBytesOf own count (with_active now active) a cuts first bytes
read_seen own blind e xs now count active a cuts first bytes is h k j l m = (
  λ z. pulls_seen own blind e xs now active a (lost_by cuts (first + 9 * k + j)) k (7 - j) is ((h k j l m).0 z),
  λ p. (h k j l m).1 (seen_pulls own blind e xs now active a (lost_by cuts (first + 9 * k + j)) k (7 - j) is p),
)

-- a slot that holds a device
pub held_seen : (e : Enabled) (xs now : List (Option Device)) (present : SlotSet) (s : ℕ) → seen e xs ≡ now → IsSetOf (λ d. true) present xs → s < SLOTS → has present s ≡ is_some (get_or now s None)
held_seen e xs now present s is of l = of s l ∙ (go (get_or xs s None) ∙ ap is_some (sym (now_at e xs now s is)))
  where
    go : (o : Option Device) → in_slot (λ d. true) o ≡ is_some (seen_in e s o)
    go None = refl
    go (Some d) = refl
