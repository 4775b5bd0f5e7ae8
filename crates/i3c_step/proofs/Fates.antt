-- What each step does to the waiting lists, the numbers and the records.
use Rattle.std.proofs.lemmas.List.{append-nil}
use Rattle.std.proofs.lemmas.List.Elements.{Contains-push_cases}
use Rattle.std.proofs.Common.{◌≡◌, ℕ, ◌+◌, suc, length, get_or, List, [], ◌∷◌, ◌++◌, drop, filter, map, Option, Some, None, ◌==◌, inl, inr, sym, refl, ap, ◌∙◌, subst, add-one, length-append, arith}
use Rattle.std.specs.List.{Contains}
use Rattle.i3c_base.specs.declared.device.Waiting.{Waiting}
use Rattle.i3c_base.specs.declared.requests.Fixed.{Fixed}
use Rattle.i3c_base.specs.declared.requests.Record.{Record}
use Rattle.i3c_base.specs.declared.requests.Served.{Served}
use Rattle.i3c_base.specs.declared.requests.Served.TheVariants.{Quiet, Recorded, Refused, Torn, Joining, WantsRole}
use Rattle.i3c_base.specs.Cutting.{CutList, Lost, lost_by}
use Rattle.i3c_base.specs.State.{Device, HasDistinctIdentities, State, device_at, raised_at}
use Rattle.i3c_base.specs.Serve.{Frame, Serves}
use Rattle.i3c_base.proofs.Lookups.{emptied_from}
use Rattle.i3c_step.specs.History.{IsAccepted, Moment}
use Rattle.i3c_step.specs.Records.{raise_of}
use Rattle.i3c_step.specs.Serving.{place_of, recorded_at}
use Rattle.i3c_step.specs.Sound.{Addresses}
use Rattle.i3c_step.specs.Stays.{accepted_at, number_raised, raised_as, recorded_since}
use Rattle.i3c_step.proofs.Drivers.{Drives-from}
use Rattle.i3c_step.proofs.Fronts.{RaisesNothing-serves, RaisesNothing, Leaves-serves, recorded_front, since_none, the_record}
use Rattle.i3c_step.proofs.Maps.{same_device}
use Rattle.i3c_step.proofs.Unserved.{Unserved, Unserved-emptied, waiting_in}

-- a slot's count of raises goes from n to m by those accepted: none, or one that has the next number
abbrev pub Counts : List Waiting → ℕ → ℕ → Type 0
Counts [] n m = m ≡ n
Counts (w ∷ []) n m = (w.number ≡ suc n) × (m ≡ suc n)
Counts (w ∷ v ∷ ws) n m = ⊥

-- the interrupts waiting in slot s: an accepted raise joins the end, the oldest are recorded, and the rest waits on
pub record Fate (old : State) (m : Moment) (s : ℕ) : Type 0 where
  pub left : List Waiting
  pub moves : waiting_in (device_at old s) ++ accepted_at m s ≡ recorded_since old m.after s ++ left
  pub rests : (d : Device) → device_at m.after s ≡ Some d → d.waiting ≡ left
  pub accepted : (w : Waiting) → Contains (accepted_at m s) w → IsAccepted old m s w
  pub counts : Counts (accepted_at m s) (raised_at old s) (raised_at m.after s)

-- a step appends one record: at its device's address, with the number and byte of one that waits there
pub record Appends (old new : State) (place : ℕ) : Type 0 where
  pub last : Record
  pub appended : new.records ≡ old.records ++ last ∷ []
  pub placed : place ≡ length new.records
  pub device : Device
  pub there : device_at old last.slot ≡ Some device
  pub address : device.address ≡ Some last.at
  pub waits : Contains device.waiting (raise_of last)

-- what a step does to the records, where it recorded at this place or nowhere
abbrev pub Grows : Option ℕ → State → State → Type 0
Grows None old new = new.records ≡ old.records
Grows (Some place) old new = Appends old new place

-- as many numbers of raises as slots
abbrev pub IsEven : State → Type 0
IsEven st = length st.raised ≡ length st.devices

-- all that the laws on records and raises need of a step
pub record StepFacts (old : State) (m : Moment) : Type 0 where
  pub fates : (s : ℕ) → Fate old m s
  pub even : IsEven m.after
  pub grows : Grows (recorded_at m.reply) old m.after

pub Contains-nil : {A : Type 0} (x : A) → Contains [] x → ⊥
Contains-nil x c = omega (arith, c.1)

pub Contains-one : {A : Type 0} (y x : A) → Contains (y ∷ []) x → y ≡ x
Contains-one y x c = elim (Contains-push_cases [] y x c) [ inl n ↦ absurd (Contains-nil x n) | inr e ↦ e ]

-- nothing is raised in the slot
pub Fate-none : (old : State) (m : Moment) (s : ℕ) → accepted_at m s ≡ [] → raised_at m.after s ≡ raised_at old s
    → (left : List Waiting) → waiting_in (device_at old s) ≡ recorded_since old m.after s ++ left → ((d : Device) → device_at m.after s ≡ Some d → d.waiting ≡ left) → Fate old m s
Fate-none old m s none raised left moves rests = record {
  left = left;
  moves = ap (λ ws. waiting_in (device_at old s) ++ ws) none ∙ (append-nil (waiting_in (device_at old s)) ∙ moves);
  rests = rests;
  accepted = λ w c. absurd (Contains-nil w (subst (λ ws. Contains ws w) none c));
  counts = subst (λ ws. Counts ws (raised_at old s) (raised_at m.after s)) (sym none) raised;
}

accepted_none : (m : Moment) (s : ℕ) → number_raised m.reply ≡ None → accepted_at m s ≡ []
accepted_none m s quiet = ap (λ o. raised_as o m.event s) quiet

-- a step that raises and serves nothing
pub StepFacts-unserved : (old : State) (m : Moment) → number_raised m.reply ≡ None → recorded_at m.reply ≡ None → Unserved old m.after → IsEven old → StepFacts old m
StepFacts-unserved old m quiet nowhere u even = record {
  fates = λ s. Fate-none old m s (accepted_none m s quiet) (ap (λ ns. get_or ns s 0) u.raised) (waiting_in (device_at old s))
      (ap (λ ws. ws ++ waiting_in (device_at old s)) (sym (since_none old m.after s u.records))) (u.waiting s);
  even = ap length u.raised ∙ (even ∙ sym u.long);
  grows = subst (λ o. Grows o old m.after) (sym nowhere) u.records;
}

-- what serving does to the records
Grows-serves : (old : State) (policy : Fixed) (lost : Lost) (served : Served) (mid : State) → Addresses old → HasDistinctIdentities old
    → Serves old policy lost served mid → Grows (place_of served) old mid
Grows-serves old policy lost Quiet mid inv distinct h = ap (λ (st : State). st.records) h.1
Grows-serves old policy lost Refused mid inv distinct h = ap (λ (st : State). st.records) h.1
Grows-serves old policy lost Joining mid inv distinct h = ap (λ (st : State). st.records) h.2
Grows-serves old policy lost (WantsRole a) mid inv distinct h = ap (λ (st : State). st.records) h.2
Grows-serves old policy lost Torn mid inv distinct h = ap (λ (st : State). st.records) h.left
Grows-serves old policy lost (Recorded place) mid inv distinct h =
    let driver = Drives-from old h.at h.slot h.lowest.0 in
    let same : h.fronted.0 ≡ driver.device = same_device old h.slot h.fronted.0 driver.device h.fronted.2 driver.there in
    let r : Record = the_record old policy lost place mid h in
    let appended : mid.records ≡ old.records ++ r ∷ [] = ap (λ (st : State). st.records) h.left in
    let front : Contains (h.front ∷ h.fronted.1) h.front = (0, omega arith, refl) in
    record {
      last = r;
      appended = appended;
      placed = h.placed ∙ sym (ap length appended ∙ (length-append old.records _ ∙ add-one (length old.records)));
      device = h.fronted.0;
      there = h.fronted.2;
      address = ap (λ (d : Device). d.address) same ∙ driver.address;
      waits = subst (λ ws. Contains ws (raise_of r)) (sym h.fronted.3)
          (subst (Contains (h.front ∷ h.fronted.1)) (sym (recorded_front old policy lost place mid inv distinct h)) front);
    }

Grows-same : (old mid new : State) (o : Option ℕ) → new.records ≡ mid.records → Grows o old mid → Grows o old new
Grows-same old mid new None e h = e ∙ h
Grows-same old mid new (Some place) e h = record {
  last = h.last;
  appended = e ∙ h.appended;
  placed = h.placed ∙ sym (ap length e);
  device = h.device;
  there = h.there;
  address = h.address;
  waits = h.waits;
}

-- a frame whose own part raises and serves nothing
pub StepFacts-frame : (old : State) (m : Moment) (policy : Fixed) (cuts : CutList) (served : Served) (rest : ℕ) (Own : Lost → State → State → Type 0)
    → ((lost : Lost) (mid done : State) → Own lost mid done → Unserved mid done) → Frame old policy cuts served rest Own m.after
    → number_raised m.reply ≡ None → recorded_at m.reply ≡ place_of served → Addresses old → HasDistinctIdentities old → IsEven old → StepFacts old m
StepFacts-frame old m policy cuts served rest Own own frame quiet place inv distinct even = record {
  fates = fate;
  even = ap length raised ∙ (even ∙ sym (u.long ∙ same.long));
  grows = subst (λ o. Grows o old m.after) (sym place) (Grows-same old frame.mid m.after (place_of served) u.records (Grows-serves old policy lost served frame.mid inv distinct frame.serves));
}
  where
    lost : Lost
    lost = lost_by cuts (frame.word + rest)

    same : RaisesNothing old frame.mid
    same = RaisesNothing-serves old policy lost served frame.mid frame.serves

    u : Unserved frame.mid m.after
    u = subst (Unserved frame.mid) (sym frame.left) (Unserved-emptied lost frame.mid frame.done (own lost frame.mid frame.done frame.own))

    raised : m.after.raised ≡ old.raised
    raised = u.raised ∙ same.raised

    fate : (s : ℕ) → Fate old m s
    fate s =
        let r = Leaves-serves old policy lost served frame.mid inv distinct frame.serves s in
        let since : recorded_since old m.after s ≡ recorded_since old frame.mid s =
        ap (λ (rs : List Record). map raise_of (filter (λ (q : Record). q.slot == s) (drop (length old.records) rs))) u.records in
        Fate-none old m s (accepted_none m s quiet) (ap (λ ns. get_or ns s 0) raised) r.left (r.moves ∙ ap (λ ws. ws ++ r.left) (sym since))
        (λ d p. u.waiting s d p ∙ r.rests (emptied_from lost frame.done s d (subst (λ (st : State). device_at st s ≡ Some d) frame.left p)).0)
