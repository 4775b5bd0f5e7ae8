-- The bits of a frame, and the frame of its parts.
use Rattle.std.proofs.Common.{◌≡◌, ℕ, ◌+◌, [], ◌∷◌, ◌++◌, length, length-append, Bool, true, false, not, ◌==◌, ◌&&◌, Option, Some, None, if◌then◌else◌, option_map, ◌⊎◌, inl, inr, sym, refl, ap, ◌∙◌, subst, arith}
use Rattle.std.proofs.lemmas.Bool.{both_ways}
use Rattle.i3c_base.specs.declared.answers.Answer.{Answer}
use Rattle.i3c_base.specs.declared.device.Waiting.{Waiting}
use Rattle.i3c_base.specs.declared.requests.Fixed.{Fixed}
use Rattle.i3c_base.specs.declared.requests.Record.{Record}
use Rattle.i3c_base.specs.declared.requests.Request.{Request}
use Rattle.i3c_base.specs.declared.requests.Request.TheVariants.{Join, Role, Interrupt}
use Rattle.i3c_base.specs.declared.requests.Served.{Served}
use Rattle.i3c_base.specs.declared.requests.Served.TheVariants.{Quiet, Recorded, Refused, Torn, Joining, WantsRole}
use Rattle.i3c_base.specs.declared.requests.Verdict.TheVariants.{Accept, Refuse}
use Rattle.i3c_base.specs.Cutting.{CutList, Lost, lost_by}
use Rattle.i3c_base.specs.Frames.{Rekinds, kinds_bits, reaches, rekinded}
use Rattle.i3c_base.specs.Numbers.{KindSet}
use Rattle.i3c_base.specs.Serve.{Frame, IsFirst, IsFront, IsLowestDriver, IsRead, IsRecorded, IsWordBits, NoneAsks, Serves, byte_due, drives, each_driver, emptied, header_bits, recorded, refuse_all, verdict, without, without_front}
use Rattle.i3c_base.specs.State.{Device, IsTargetAt, State, entry_at, has_address}
use Rattle.i3c_base.proofs.Lookups.{each_at, each_from}
use Rattle.i3c_step.proofs.Uniqueness.{accept≢refuse, first_unique}
use Rattle.i3c_model.specs.Meaning.{MayAnswer, is_meant}
use Rattle.i3c_model.specs.Storing.{IsRecordDue}

-- a frame that serves, does its own part, and loses the devices cut by its last bit
pub frame_of : (old : State) (policy : Fixed) (cuts : CutList) (served : Served) (rest word last : ℕ) (Own : Lost → State → State → Type 0) (mid done new : State)
    → last ≡ word + rest → IsWordBits old served word → Serves old policy (lost_by cuts last) served mid → Own (lost_by cuts last) mid done → new ≡ emptied (lost_by cuts last) done → Frame old policy cuts served rest Own new
frame_of old policy cuts served rest word last Own mid done new e sent serves own left = record {
  word = word;
  mid = mid;
  done = done;
  sent = sent;
  serves = subst (λ n. Serves old policy (lost_by cuts n) served mid) e serves;
  own = subst (λ n. Own (lost_by cuts n) mid done) e own;
  left = left ∙ ap (λ n. emptied (lost_by cuts n) done) e;
}

-- serving leaves each target where it is
abbrev pub KeepsTargets : State → State → Type 0
KeepsTargets old new =
    ((a s : ℕ) (d : Device) → IsTargetAt old a s d → (e : Device) × IsTargetAt new a s e)
    × ((a s : ℕ) (d : Device) → IsTargetAt new a s d → (e : Device) × IsTargetAt old a s e)

without_address : (b : Bool) (r : Request) (d : Device) → (if b then without r d else d).address ≡ d.address
without_address true Join d = refl
without_address true (Role a) d = refl
without_address true (Interrupt a) d = refl
without_address false r d = refl

driver_keeps : (r : Request) (st : State) → KeepsTargets st (each_driver r (without r) st)
driver_keeps r st = (
  λ a s d h. let f : ℕ → Device → Device = λ k x. if drives st r k then without r x else x in
      (f s d, (each_at f st s ∙ ap (option_map (f s)) h.0, without_address (drives st r s) r d ∙ h.1, h.2)),
  λ a s d h. let f : ℕ → Device → Device = λ k x. if drives st r k then without r x else x in
      let x = each_from f st s d h.0 in
      (x.0, (x.1, sym (without_address (drives st r s) r x.0) ∙ (ap (λ (y : Device). y.address) x.2 ∙ h.1), h.2)),
)

keeps_same : (old new : State) → new ≡ old → KeepsTargets old new
keeps_same old new e = subst (KeepsTargets old) (sym e) (λ a s d h. (d, h), λ a s d h. (d, h))

keeps_to : (old mid new : State) → new ≡ mid → KeepsTargets old mid → KeepsTargets old new
keeps_to old mid new e h = subst (KeepsTargets old) (sym e) h

pub serves_keeps : (st : State) (policy : Fixed) (lost : Lost) (served : Served) (new : State) → Serves st policy lost served new → KeepsTargets st new
serves_keeps st policy lost Quiet new h = keeps_same st new h.1
serves_keeps st policy lost Refused new h = keeps_same st new h.1
serves_keeps st policy lost Joining new h = keeps_to st _ new h.2 (driver_keeps Join st)
serves_keeps st policy lost (WantsRole a) new h = keeps_to st _ new h.2 (driver_keeps (Role a) st)
serves_keeps st policy lost (Recorded place) new h = keeps_to st _ new h.left (driver_keeps (Interrupt h.at) st)
serves_keeps st policy lost Torn new h = keeps_to st _ new h.left (driver_keeps (Interrupt h.at) st)

-- what a command may be answered it may be after serving, and then its own part is done
pub rekinds_of : (to : Option ℕ) (f : KindSet → KindSet) (answer : Answer) (cuts : CutList) (begin : ℕ) (st mid done : State) → KeepsTargets st mid → MayAnswer st to (lost_by cuts (begin + 18)) answer
    → (answer ≡ Answer.Done → done ≡ rekinded to f mid) → (¬ (answer ≡ Answer.Done) → done ≡ mid) → Rekinds to f answer (lost_by cuts (begin + kinds_bits to answer)) mid done
rekinds_of None f answer cuts begin st mid done keeps may did not_did = (may, did may)
rekinds_of (Some a) f answer cuts begin st mid done keeps may did not_did = elim may [
  | inl h ↦ inl (h.0, (let t = keeps.0 a h.1.0 h.1.1 h.1.2 in (h.1.0, t.0, t.1)), did h.0)
  | inr h ↦ inr (
    h.0,
    (λ s d t. ap (λ (x : Answer). lost_by cuts (begin + kinds_bits (Some a) x) s) h.0 ∙ (let o = keeps.1 a s d t in h.1 s o.0 o.1)),
    not_did (λ e. let no : Answer.NoAnswer a ≡ Answer.Done = sym h.0 ∙ e in cc),
  )
]

-- the devices that a command reaches: those that it means, except the active controller
pub is_reached : (st : State) (to : Option ℕ) (active s : ℕ) (d : Device) → active ≡ st.active → (not (s == active) && is_meant to d) ≡ reaches st to s d
is_reached st None active s d e = go (not (s == active)) ∙ ap (λ k. not (s == k)) e
  where
    go : (b : Bool) → (b && true) ≡ b
    go true = refl
    go false = refl
is_reached st (Some a) active s d e = ap (λ k. not (s == k) && has_address a d) e

-- a frame that refuses the first request, if there is one
pub refused_frame : (st : State) (cuts : CutList) (served : Served) (header bits : ℕ) (Own : Lost → State → State → Type 0) (done new : State) → IsWordBits st served 0 → Serves st refuse_all (lost_by cuts (header + bits)) served st → header ≡ header_bits served
    → Own (lost_by cuts (header + bits)) st done → new ≡ emptied (lost_by cuts (header + bits)) done → Frame st refuse_all cuts served (header_bits served + bits) Own new
refused_frame st cuts served header bits Own done new sent serves e own left =
    frame_of st refuse_all cuts served (header_bits served + bits) 0 (header + bits) Own st done new (let same : header ≡ header_bits served = e in omega arith) sent serves own left

-- a record is appended, and then the interrupt is answered
pub recorded_served : (st : State) (a slot : ℕ) (front : Waiting) (byte : Option ℕ) (mid new : State) (place : ℕ) → IsFirst st (Interrupt a) → IsLowestDriver st (Interrupt a) slot × IsFront st slot front
    → ((lost : Lost) (w : Waiting) → drives st (Interrupt a) slot ≡ true → IsFront st slot w → IsRead st lost (Interrupt a) slot w byte) → mid ≡ recorded (record { slot = slot; number = front.number; at = a; byte = byte }) st
    → new ≡ each_driver (Interrupt a) (without (Interrupt a)) mid → place ≡ length new.records → (policy : Fixed) (lost : Lost) → verdict st policy (Interrupt a) ≡ Accept → IsRecorded st policy lost place new
recorded_served st a slot front byte mid new place first lowest read kept answered count policy lost accepted =
    let r : Record = record { slot = slot; number = front.number; at = a; byte = byte } in
    let left : new ≡ recorded r (each_driver (Interrupt a) without_front st) = answered ∙ ap (each_driver (Interrupt a) without_front) kept in
    let records : length new.records ≡ length (st.records ++ r ∷ []) = ap (λ (x : State). length x.records) left in
    let more = length-append st.records (r ∷ []) in record {
      at = a;
      slot = slot;
      front = front;
      byte = byte;
      first = first;
      accepted = accepted;
      lowest = lowest.0;
      fronted = lowest.1;
      read = read lost front lowest.0.0 lowest.1;
      placed = omega (arith, count, records, more);
      left = left;
    }

-- nothing is torn if the interrupt has no mandatory byte, or a driver is left
pub not_torn : (st : State) (policy : Fixed) (lost : Lost) (a : ℕ) → IsFirst st (Interrupt a) → (byte_due (entry_at st a) ≡ false) ⊎ ((s : ℕ) × (drives st (Interrupt a) s ≡ true) × (lost s ≡ false)) → (new : State) → ¬ Serves st policy lost Torn new
not_torn st policy lost a first why new t =
    let e : Interrupt t.at ≡ Interrupt a = first_unique st (Interrupt t.at) (Interrupt a) t.first first in
    let same : t.at ≡ a = cc in
    elim why [
      | inl undue ↦ both_ways _ undue (ap (λ b. byte_due (entry_at st b)) (sym same) ∙ t.due)
      | inr left ↦ both_ways _ left.2 (t.gone left.0 (ap (λ b. drives st (Interrupt b) left.0) same ∙ left.1))
    ]
