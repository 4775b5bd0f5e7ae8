-- What serving does to a slot's waiting list: its front is recorded, or the list stays.
use Rattle.std.proofs.lemmas.Bool.{both_ways, cond-false, cond-true, eq-eqb, ne_eqb}
use Rattle.std.proofs.lemmas.List.{drop_all, drop_at}
use Rattle.std.proofs.Common.{◌≡◌, ℕ, Bool, true, false, length, List, [], ◌∷◌, ◌++◌, drop, filter, map, option_map, ◌==◌, if◌then◌else◌, sym, refl, ap, ◌∙◌, subst, arith}
use Rattle.i3c_base.specs.declared.device.Waiting.{Waiting}
use Rattle.i3c_base.specs.declared.requests.Fixed.{Fixed}
use Rattle.i3c_base.specs.declared.requests.Record.{Record}
use Rattle.i3c_base.specs.declared.requests.Request.{Request}
use Rattle.i3c_base.specs.declared.requests.Request.TheVariants.{Join, Role, Interrupt}
use Rattle.i3c_base.specs.declared.requests.Served.{Served}
use Rattle.i3c_base.specs.declared.requests.Served.TheVariants.{Quiet, Recorded, Refused, Torn, Joining, WantsRole}
use Rattle.i3c_base.specs.Cutting.{Lost}
use Rattle.i3c_base.specs.State.{Device, HasDistinctIdentities, State, device_at}
use Rattle.i3c_base.specs.Serve.{IsRecorded, Serves, drives, each_driver, tail, without_front, without_join, without_role}
use Rattle.i3c_base.proofs.Lookups.{length-changed}
use Rattle.i3c_step.specs.Records.{raise_of}
use Rattle.i3c_step.specs.Sound.{Addresses}
use Rattle.i3c_step.specs.Stays.{recorded_since}
use Rattle.i3c_step.proofs.Drivers.{Drives-from}
use Rattle.i3c_step.proofs.Unserved.{waiting_each, waiting_in, waiting-if}

-- nothing is recorded where the records stay as they were
pub since_none : (old new : State) (s : ℕ) → new.records ≡ old.records → recorded_since old new s ≡ []
since_none old new s e =
    let d : drop (length old.records) new.records ≡ [] = drop_all (length old.records) new.records (let l : length new.records ≡ length old.records = ap length e in omega arith) in
    ap (λ (rs : List Record). map raise_of (filter (λ (r : Record). r.slot == s) rs)) d

-- one record more is the slot's or another's
since_one : (old new : State) (s : ℕ) (r : Record) → new.records ≡ old.records ++ r ∷ [] → recorded_since old new s ≡ (if r.slot == s then raise_of r ∷ [] else [])
since_one old new s r e =
    let d : drop (length old.records) new.records ≡ r ∷ [] = ap (drop (length old.records)) e ∙ drop_at old.records (r ∷ []) (length old.records) refl in
    ap (λ (rs : List Record). map raise_of (filter (λ (q : Record). q.slot == s) rs)) d ∙ pick (r.slot == s)
  where
    pick : (b : Bool) → map raise_of (if b then r ∷ [] else []) ≡ (if b then raise_of r ∷ [] else [])
    pick true = refl
    pick false = refl

-- the oldest interrupt waiting in slot s was recorded, and the rest waits on, unless the frame loses the device
pub record Leaves (old mid : State) (lost : Lost) (s : ℕ) : Type 0 where
  pub left : List Waiting
  pub moves : waiting_in (device_at old s) ≡ recorded_since old mid s ++ left
  pub rests : lost s ≡ false → waiting_in (device_at mid s) ≡ left

-- nothing of the slot is recorded
Leaves-same : (old mid : State) (lost : Lost) (s : ℕ) → recorded_since old mid s ≡ [] → (lost s ≡ false → waiting_in (device_at mid s) ≡ waiting_in (device_at old s)) → Leaves old mid lost s
Leaves-same old mid lost s none rests = record {
  left = waiting_in (device_at old s);
  moves = ap (λ ws. ws ++ waiting_in (device_at old s)) (sym none);
  rests = rests;
}

-- the state and its records stay
Leaves-refl : (old mid : State) (lost : Lost) (s : ℕ) → mid ≡ old → Leaves old mid lost s
Leaves-refl old mid lost s e = Leaves-same old mid lost s (since_none old mid s (ap (λ (st : State). st.records) e)) (λ left. ap (λ st. waiting_in (device_at st s)) e)

-- the drivers lose a wish
Leaves-wish : (old mid : State) (lost : Lost) (s : ℕ) (r : Request) (f : Device → Device) → ((d : Device) → (f d).waiting ≡ d.waiting) → mid ≡ each_driver r f old → Leaves old mid lost s
Leaves-wish old mid lost s r f same e = Leaves-same old mid lost s (since_none old mid s (ap (λ (st : State). st.records) e))
    (λ left. ap (λ st. waiting_in (device_at st s)) e
    ∙ waiting_each (λ ws. ws) (λ t d. if drives old r t then f d else d) old s refl (λ d. waiting-if (drives old r s) (f d) d (same d)))

-- the drivers of an interrupt lose their fronts
waiting_fronts : (st : State) (a s : ℕ) (t : Bool) → drives st (Interrupt a) s ≡ t
    → waiting_in (device_at (each_driver (Interrupt a) without_front st) s) ≡ (if t then tail (waiting_in (device_at st s)) else waiting_in (device_at st s))
waiting_fronts st a s true e = waiting_each tail (λ u x. if drives st (Interrupt a) u then without_front x else x) st s refl
    (λ d. ap (λ (b : Bool). (if b then without_front d else d).waiting) e)
waiting_fronts st a s false e = waiting_each (λ ws. ws) (λ u x. if drives st (Interrupt a) u then without_front x else x) st s refl
    (λ d. ap (λ (b : Bool). (if b then without_front d else d).waiting) e)

-- where identities are distinct, a request at an address has one driver
pub one_driver : (st : State) → Addresses st → HasDistinctIdentities st → (a s t : ℕ) → drives st (Interrupt a) s ≡ true → drives st (Interrupt a) t ≡ true → s ≡ t
one_driver st inv distinct a s t p q =
    let x = Drives-from st a s p in let y = Drives-from st a t q in
    distinct s t x.device y.device x.there y.there (inv.alike s t a x.device y.device x.there y.there x.address y.address)

-- the record that serving an interrupt appends
abbrev pub the_record : (st : State) (policy : Fixed) (lost : Lost) (place : ℕ) (new : State) → IsRecorded st policy lost place new → Record
the_record st policy lost place new h = record { slot = h.slot; number = h.front.number; at = h.at; byte = h.byte }

-- it names the front: its byte is the one that the only driver sends
pub recorded_front : (st : State) (policy : Fixed) (lost : Lost) (place : ℕ) (new : State) → Addresses st → HasDistinctIdentities st
    → (h : IsRecorded st policy lost place new) → raise_of (the_record st policy lost place new h) ≡ h.front
recorded_front st policy lost place new inv distinct h =
    let byte : h.byte ≡ h.front.byte = h.read.alone (λ t p. one_driver st inv distinct h.at t h.slot p h.lowest.0) in
    λ k. record { number = h.front.number; byte = byte k }

-- a recorded interrupt
Leaves-recorded : (old : State) (policy : Fixed) (lost : Lost) (place : ℕ) (mid : State) → Addresses old → HasDistinctIdentities old
    → IsRecorded old policy lost place mid → (s : ℕ) → Leaves old mid lost s
Leaves-recorded old policy lost place mid inv distinct h s = go (drives old (Interrupt h.at) s) refl
  where
    since : recorded_since old mid s ≡ (if h.slot == s then raise_of (the_record old policy lost place mid h) ∷ [] else [])
    since = since_one old mid s (the_record old policy lost place mid h) (ap (λ (st : State). st.records) h.left)

    go : (t : Bool) → drives old (Interrupt h.at) s ≡ t → Leaves old mid lost s
    go true e =
        let slot : s ≡ h.slot = one_driver old inv distinct h.at s h.slot e h.lowest.0 in
        let before : waiting_in (device_at old s) ≡ h.front ∷ h.fronted.1 = ap (λ t. waiting_in (device_at old t)) slot ∙ (ap waiting_in h.fronted.2 ∙ h.fronted.3) in
        let one : recorded_since old mid s ≡ h.front ∷ [] = since
        ∙ (cond-true (h.slot == s) _ [] (eq-eqb h.slot s (sym slot)) ∙ ap (λ (w : Waiting). w ∷ []) (recorded_front old policy lost place mid inv distinct h)) in
        record {
          left = h.fronted.1;
          moves = before ∙ ap (λ (ws : List Waiting). ws ++ h.fronted.1) (sym one);
          rests = λ left. ap (λ (st : State). waiting_in (device_at st s)) h.left ∙ (waiting_fronts old h.at s true e ∙ ap tail before);
        }
    go false e =
        let other : (h.slot == s) ≡ false = ne_eqb h.slot s (λ k. both_ways _ e (subst (λ t. drives old (Interrupt h.at) t ≡ true) k h.lowest.0)) in
        Leaves-same old mid lost s (since ∙ cond-false (h.slot == s) _ [] other)
        (λ left. ap (λ (st : State). waiting_in (device_at st s)) h.left ∙ waiting_fronts old h.at s false e)

-- serving, at any slot
pub Leaves-serves : (old : State) (policy : Fixed) (lost : Lost) (served : Served) (mid : State) → Addresses old → HasDistinctIdentities old
    → Serves old policy lost served mid → (s : ℕ) → Leaves old mid lost s
Leaves-serves old policy lost Quiet mid inv distinct h s = Leaves-refl old mid lost s h.1
Leaves-serves old policy lost Refused mid inv distinct h s = Leaves-refl old mid lost s h.1
Leaves-serves old policy lost Joining mid inv distinct h s = Leaves-wish old mid lost s Join without_join (λ d. refl) h.2
Leaves-serves old policy lost (WantsRole a) mid inv distinct h s = Leaves-wish old mid lost s (Role a) without_role (λ d. refl) h.2
Leaves-serves old policy lost (Recorded place) mid inv distinct h s = Leaves-recorded old policy lost place mid inv distinct h s
Leaves-serves old policy lost Torn mid inv distinct h s = Leaves-same old mid lost s (since_none old mid s (ap (λ (st : State). st.records) h.left))
    (λ left. ap (λ (st : State). waiting_in (device_at st s)) h.left ∙ go left (drives old (Interrupt h.at) s) refl)
  where
    go : lost s ≡ false → (t : Bool) → drives old (Interrupt h.at) s ≡ t → waiting_in (device_at (each_driver (Interrupt h.at) without_front old) s) ≡ waiting_in (device_at old s)
    go left true e = absurd (both_ways (lost s) left (h.gone s e))
    go left false e = waiting_fronts old h.at s false e

-- serving raises nothing, and keeps the number of slots
pub record RaisesNothing (old new : State) : Type 0 where
  pub raised : new.raised ≡ old.raised
  pub long : length new.devices ≡ length old.devices

RaisesNothing-driver : (r : Request) (f : Device → Device) (old mid : State) → mid.raised ≡ old.raised → mid.devices ≡ (each_driver r f old).devices → RaisesNothing old mid
RaisesNothing-driver r f old mid raised devices = record {
  raised = raised;
  long = ap length devices ∙ length-changed (λ s place. option_map (λ d. if drives old r s then f d else d) place) old.devices;
}

pub RaisesNothing-serves : (old : State) (policy : Fixed) (lost : Lost) (served : Served) (mid : State) → Serves old policy lost served mid → RaisesNothing old mid
RaisesNothing-serves old policy lost Quiet mid h = subst (RaisesNothing old) (sym h.1) (record { raised = refl; long = refl })
RaisesNothing-serves old policy lost Refused mid h = subst (RaisesNothing old) (sym h.1) (record { raised = refl; long = refl })
RaisesNothing-serves old policy lost Joining mid h = RaisesNothing-driver Join without_join old mid (ap (λ (st : State). st.raised) h.2) (ap (λ (st : State). st.devices) h.2)
RaisesNothing-serves old policy lost (WantsRole a) mid h = RaisesNothing-driver (Role a) without_role old mid (ap (λ (st : State). st.raised) h.2) (ap (λ (st : State). st.devices) h.2)
RaisesNothing-serves old policy lost (Recorded place) mid h =
    RaisesNothing-driver (Interrupt h.at) without_front old mid (ap (λ (st : State). st.raised) h.left) (ap (λ (st : State). st.devices) h.left)
RaisesNothing-serves old policy lost Torn mid h =
    RaisesNothing-driver (Interrupt h.at) without_front old mid (ap (λ (st : State). st.raised) h.left) (ap (λ (st : State). st.devices) h.left)
