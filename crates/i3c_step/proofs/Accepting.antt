-- A frame records the interrupt that it accepts.
use Rattle.std.proofs.Common.{◌≡◌, ℕ, ◌+◌, true, [], ◌∷◌, ◌++◌, length, inl, inr, Option, Some, option_and_then, sym, ap, refl, ◌∙◌, subst, arith}
use Rattle.std.proofs.lemmas.Bool.{both_ways}
use Rattle.std.proofs.lemmas.List.{length_push}
use Rattle.std.proofs.lemmas.Option.{none-some, same_Some}
use Rattle.i3c_base.specs.declared.device.Waiting.{Waiting}
use Rattle.i3c_base.specs.declared.requests.Fixed.{Fixed}
use Rattle.i3c_base.specs.declared.requests.Record.{Record}
use Rattle.i3c_base.specs.declared.requests.Request.TheVariants.{Interrupt}
use Rattle.i3c_base.specs.declared.requests.Served.{Served}
use Rattle.i3c_base.specs.declared.requests.Served.TheVariants.{Recorded, Torn}
use Rattle.i3c_base.specs.declared.requests.Verdict.TheVariants.{Accept}
use Rattle.i3c_base.specs.Cutting.{CutList, Lost, lost_by}
use Rattle.i3c_base.specs.State.{State, device_at, entry_at}
use Rattle.i3c_base.specs.Serve.{Frame, IsFirst, IsFront, IsLowestDriver, IsRecorded, IsTorn, Serves, byte_due, drives, refuse_all, verdict}
use Rattle.i3c_base.proofs.Lookups.{emptied_from}
use Rattle.i3c_step.specs.Records.{IsRecordedOrTorn, IsTornOff, RecordsFront}
use Rattle.i3c_step.specs.Serving.{place_of, policy_of, served_of}
use Rattle.i3c_step.specs.Step.{Acts, Step}
use Rattle.i3c_step.specs.declared.events.Event.{Event}
use Rattle.i3c_step.specs.declared.events.Event.TheVariants.{Attach, DropOff, Raise, AskJoin, AskRole, Serve, Enec, Disec, Reset, SendList, ReadFrom, WriteTo, SetStatic, SetNew, Get, SetLength, OpenDaa, Round, EndDaa, HandOver}
use Rattle.i3c_step.specs.declared.replies.Reply.{Reply}
use Rattle.i3c_step.proofs.Drivers.{accepted_served}
use Rattle.i3c_step.proofs.Slots.{records_rekinds}
use Rattle.i3c_step.proofs.Steps.{IsIdle, refused, short, step_cases}
use Rattle.i3c_step.proofs.Transfers.{gets_keep, lengths_keep, reads_keep, writes_keep, news_keep, statics_keep}
use Rattle.i3c_step.proofs.Uniqueness.{first_unique}

-- an accepted interrupt
record IsAcceptedOf (old : State) (policy : Fixed) (a : ℕ) : Type 0 where
  first : IsFirst old (Interrupt a)
  accepted : verdict old policy (Interrupt a) ≡ Accept

-- what was served, as the record that it appended
record IsServedAs (old : State) (a : ℕ) (served : Served) (new : State) : Type 0 where
  last : Record
  appended : new.records ≡ old.records ++ last ∷ []
  placed : served ≡ Recorded (length new.records)
  address : last.at ≡ a
  lowest : IsLowestDriver old (Interrupt a) last.slot
  front : Waiting
  fronted : IsFront old last.slot front
  number : last.number ≡ front.number

-- an own part leaves the records
abbrev KeepsRecords : (Lost → State → State → Type 0) → Type 0
KeepsRecords Own = (lost : Lost) (mid done : State) → Own lost mid done → done.records ≡ mid.records

frame_records : (old : State) (policy : Fixed) (cuts : CutList) (served : Served) (rest : ℕ) (Own : Lost → State → State → Type 0) (new : State) (a : ℕ) → KeepsRecords Own
    → (f : Frame old policy cuts served rest Own new) → IsAcceptedOf old policy a → (placed : (place : ℕ) × (served ≡ Recorded place)) → IsServedAs old a served new
frame_records old policy cuts served rest Own new a keeps f h placed =
    let lost : Lost = lost_by cuts (f.word + rest) in
    let r : IsRecorded old policy lost placed.0 f.mid = subst (λ x. Serves old policy lost x f.mid) placed.1 f.serves in
    let same : Interrupt r.at ≡ Interrupt a = first_unique old (Interrupt r.at) (Interrupt a) r.first h.first in
    let at : r.at ≡ a = cc in
    let last : Record = record { slot = r.slot; number = r.front.number; at = r.at; byte = r.byte } in
    let appended : new.records ≡ old.records ++ last ∷ [] =
    ap (λ (st : State). st.records) f.left ∙ (keeps lost f.mid f.done f.own ∙ ap (λ (st : State). st.records) r.left) in
    let longer : length new.records ≡ length old.records + 1 = ap length appended ∙ length_push old.records last in
    let place : placed.0 ≡ length new.records = omega (arith, r.placed, longer) in
    record {
      last = last;
      appended = appended;
      placed = placed.1 ∙ ap Recorded place;
      address = at;
      lowest = subst (λ k. IsLowestDriver old (Interrupt k) r.slot) at r.lowest;
      front = r.front;
      fronted = r.fronted;
      number = refl;
    }

-- a frame that tears an interrupt
frame_tears : (old : State) (policy : Fixed) (cuts : CutList) (served : Served) (rest : ℕ) (Own : Lost → State → State → Type 0) (new : State) (a : ℕ)
    → (f : Frame old policy cuts served rest Own new) → IsAcceptedOf old policy a → served ≡ Torn → IsTornOff old a served new
frame_tears old policy cuts served rest Own new a f h torn =
    let lost : Lost = lost_by cuts (f.word + rest) in
    let t : IsTorn old policy lost f.mid = subst (λ x. Serves old policy lost x f.mid) torn f.serves in
    let same : Interrupt t.at ≡ Interrupt a = first_unique old (Interrupt t.at) (Interrupt a) t.first h.first in
    let at : t.at ≡ a = cc in
    record {
      torn = torn;
      due = ap (λ k. byte_due (entry_at old k)) (sym at) ∙ t.due;
      gone = λ s driven there.
          let left = emptied_from lost f.done s there.0 (subst (λ (st : State). device_at st s ≡ Some there.0) f.left there.1) in
          both_ways _ left.0 (t.gone s (subst (λ r. drives old r s ≡ true) (sym same) driven));
    }

-- what was served, in a reply
in_reply : (old : State) (a : ℕ) (reply : Reply) (served : Served) (new : State) → served_of reply ≡ Some served → IsServedAs old a served new → RecordsFront old a reply new
in_reply old a reply served new e h = record {
  last = h.last;
  appended = h.appended;
  placed = ap recorded_in e ∙ ap place_of h.placed;
  address = h.address;
  lowest = h.lowest;
  front = h.front;
  fronted = h.fronted;
  number = h.number;
}
  where
    recorded_in : Option Served → Option ℕ
    recorded_in o = option_and_then place_of o

-- a frame that served an accepted interrupt
frame_accepts : (old : State) (policy : Fixed) (cuts : CutList) (served : Served) (rest : ℕ) (Own : Lost → State → State → Type 0) (reply : Reply) (new : State) (a : ℕ) → KeepsRecords Own
    → Frame old policy cuts served rest Own new → served_of reply ≡ Some served → (p : Fixed) → policy ≡ p → IsAcceptedOf old p a → IsRecordedOrTorn old a reply new
frame_accepts old policy cuts served rest Own reply new a keeps f e p same h =
    let k : IsAcceptedOf old policy a = subst (λ q. IsAcceptedOf old q a) (sym same) h in
    elim (accepted_served old policy _ served f.mid a f.serves k.first k.accepted) [
      | inl placed ↦ inl (in_reply old a reply served new e (frame_records old policy cuts served rest Own new a keeps f k placed))
      | inr torn ↦ inr (served, e, frame_tears old policy cuts served rest Own new a f k torn)
    ]

acts_record : (old : State) (event : Event) (reply : Reply) (new : State) (policy : Fixed) (a : ℕ) → Acts old event reply new → policy_of event ≡ Some policy
    → IsAcceptedOf old policy a → IsRecordedOrTorn old a reply new
acts_record old (Serve p cuts) reply new policy a acts e h =
    frame_accepts old p cuts acts.0 _ _ reply new a (λ lost mid done k. ap (λ (st : State). st.records) k) acts.2 (ap served_of acts.1) policy (same_Some p policy e) h
acts_record old (Enec to kinds p cuts) reply new policy a acts e h =
    frame_accepts old p cuts acts.0.served _ _ reply new a (records_rekinds to _ acts.0.answer) acts.2 (ap served_of acts.1) policy (same_Some p policy e) h
acts_record old (Disec to kinds p cuts) reply new policy a acts e h =
    frame_accepts old p cuts acts.0.served _ _ reply new a (records_rekinds to _ acts.0.answer) acts.2 (ap served_of acts.1) policy (same_Some p policy e) h
acts_record old (Reset p cuts) reply new policy a acts e h =
    frame_accepts old p cuts acts.0 _ _ reply new a (λ lost mid done k. ap (λ (st : State). st.records) k) acts.2 (ap served_of acts.1) policy (same_Some p policy e) h
acts_record old (SendList p cuts) reply new policy a acts e h =
    frame_accepts old p cuts acts.0 _ _ reply new a (λ lost mid done k. ap (λ (st : State). st.records) k) acts.2 (ap served_of acts.1) policy (same_Some p policy e) h
acts_record old (ReadFrom t p cuts) reply new policy a acts e h =
    frame_accepts old p cuts acts.0.served _ _ reply new a (reads_keep (λ mid done. done.records ≡ mid.records) (λ st. refl) t acts.0.answer) acts.2 (ap served_of acts.1) policy (same_Some p policy e) h
acts_record old (WriteTo t bytes p cuts) reply new policy a acts e h =
    frame_accepts old p cuts acts.0.served _ _ reply new a (writes_keep (λ mid done. done.records ≡ mid.records) t bytes.items (λ st. refl) (λ st. refl) acts.0.answer) acts.2
    (ap served_of acts.1) policy (same_Some p policy e) h
acts_record old (SetStatic f t p cuts) reply new policy a acts e h =
    frame_accepts old p cuts acts.0.served _ _ reply new a (statics_keep (λ mid done. done.records ≡ mid.records) f t (λ st. refl) (λ i st. refl) acts.0.answer) acts.2
    (ap served_of acts.1) policy (same_Some p policy e) h
acts_record old (SetNew b t p cuts) reply new policy a acts e h =
    frame_accepts old p cuts acts.0.served _ _ reply new a (news_keep (λ mid done. done.records ≡ mid.records) b t (λ st. refl) (λ st. refl) acts.0.answer) acts.2
    (ap served_of acts.1) policy (same_Some p policy e) h
acts_record old (Get what b p cuts) reply new policy a acts e h =
    frame_accepts old p cuts acts.0.served _ _ reply new a (gets_keep (λ mid done. done.records ≡ mid.records) (λ st. refl) what b acts.0.answer) acts.2 (ap served_of acts.1) policy (same_Some p policy e) h
acts_record old (SetLength way most to p cuts) reply new policy a acts e h =
    frame_accepts old p cuts acts.0.served _ _ reply new a (lengths_keep (λ mid done. done.records ≡ mid.records) to way most (λ st. refl) (λ st. refl) acts.0.answer) acts.2 (ap served_of acts.1) policy (same_Some p policy e) h
acts_record old (AskRole t) reply new policy a acts e h = absurd (none-some policy e)
acts_record old (OpenDaa cuts) reply new policy a acts e h =
    frame_accepts old refuse_all cuts acts.0 _ _ reply new a (λ lost mid done k. ap (λ (st : State). st.records) k) acts.2 (ap served_of acts.1) policy (same_Some refuse_all policy e) h
acts_record old (Attach t setup) reply new policy a acts e h = absurd (none-some policy e)
acts_record old (DropOff t) reply new policy a acts e h = absurd (none-some policy e)
acts_record old (Raise t byte) reply new policy a acts e h = absurd (none-some policy e)
acts_record old (AskJoin t) reply new policy a acts e h = absurd (none-some policy e)
acts_record old (Round cuts) reply new policy a acts e h = absurd (none-some policy e)
acts_record old (HandOver to cuts) reply new policy a acts e h = elim acts [
  | inl g ↦ frame_accepts old refuse_all cuts g.0 _ _ reply new a (λ lost mid done k. ap (λ (st : State). st.records) k.4) g.2 (ap served_of g.1) policy (same_Some refuse_all policy e) h
  | inr g ↦ frame_accepts old refuse_all cuts g.0 _ _ reply new a (λ lost mid done k. ap (λ (st : State). st.records) k.1) g.4 (ap served_of g.2) policy (same_Some refuse_all policy e) h
]
acts_record old EndDaa reply new policy a acts e h = absurd (none-some policy e)

-- an idle event serves nothing
idle_serves : (reply : Reply) (served : Served) → IsIdle reply → served_of reply ≡ Some served → ⊥
idle_serves reply served (refused why e) h = none-some served (sym (ap served_of e) ∙ h)
idle_serves reply served (short e) h = none-some served (sym (ap served_of e) ∙ h)

pub step_records : (old : State) (event : Event) (reply : Reply) (new : State) (policy : Fixed) (served : Served) (a : ℕ)
    → Step old event reply new → policy_of event ≡ Some policy → served_of reply ≡ Some served
    → IsFirst old (Interrupt a) → verdict old policy (Interrupt a) ≡ Accept → IsRecordedOrTorn old a reply new
step_records old event reply new policy served a h e sent first accepted =
    step_cases old event reply new h (λ idle same. absurd (idle_serves reply served idle sent))
    (λ free acts. acts_record old event reply new policy a acts e (record { first = first; accepted = accepted }))
