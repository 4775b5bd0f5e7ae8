-- What a step changes of slots and sessions.
use Rattle.std.proofs.lemmas.Bool.{both_ways}
use Rattle.std.proofs.Common.{◌≡◌, ℕ, true, false, ◌⊎◌, inl, inr, sym, refl, ap, ◌∙◌, subst}
use Rattle.i3c_base.specs.declared.answers.RoundReply.{RoundReply}
use Rattle.i3c_base.specs.declared.requests.Fixed.{Fixed}
use Rattle.i3c_base.specs.declared.requests.Served.{Served}
use Rattle.i3c_base.specs.Cutting.{CutList, Lost}
use Rattle.i3c_base.specs.Frames.{IsWillingAt}
use Rattle.i3c_base.specs.Round.{Rounds}
use Rattle.i3c_base.specs.Serve.{Frame, emptied}
use Rattle.i3c_base.specs.State.{State}
use Rattle.i3c_step.specs.declared.events.Event.{Event}
use Rattle.i3c_step.specs.declared.events.Event.TheVariants.{Attach, DropOff, Raise, AskJoin, AskRole, Serve, Enec, Disec, Reset, SendList, ReadFrom, WriteTo, SetStatic, SetNew, Get, SetLength, OpenDaa, Round, EndDaa, HandOver}
use Rattle.i3c_step.specs.declared.replies.Reply.{Reply}
use Rattle.i3c_step.specs.Slots.{HasMoved, KeepsSlots, is_handed, session_after}
use Rattle.i3c_step.specs.Step.{Acts, Step}
use Rattle.i3c_step.proofs.Follows.{Came-step}
use Rattle.i3c_step.proofs.Handing.{declined, granted}
use Rattle.i3c_step.proofs.Slots.{Stands, Stands-rekinds, Stands-same, Stands-serves, Stands-then}
use Rattle.i3c_step.proofs.Steps.{IsIdle, refused, short, step_cases}
use Rattle.i3c_step.proofs.Transfers.{gets_keep, lengths_keep, reads_keep, writes_keep, news_keep, statics_keep}

-- the active controller stays, or a granted handover moves it
abbrev Moves : State → Event → Reply → State → Type 0
Moves old event reply new = ((is_handed reply ≡ false) × (new.active ≡ old.active)) ⊎ ((is_handed reply ≡ true) × HasMoved old event new)

-- so it does, and the session is as the reply says
abbrev Settles : State → Event → Reply → State → Type 0
Settles old event reply new = Moves old event reply new × (new.in_session ≡ session_after reply old.in_session)

-- an answer that moves nothing, and neither opens nor ends a session, leaves it
Settles-stands : (old : State) (event : Event) (reply : Reply) (new : State) → session_after reply old.in_session ≡ old.in_session → is_handed reply ≡ false → Stands old new → Settles old event reply new
Settles-stands old event reply new e stays h = (inl (stays, h.0), h.1 ∙ sym e)

-- what a frame leaves before its own part
Stands-mid : (old : State) (policy : Fixed) (cuts : CutList) (served : Served) (rest : ℕ) (Own : Lost → State → State → Type 0) (new : State) → (f : Frame old policy cuts served rest Own new) → Stands old f.mid
Stands-mid old policy cuts served rest Own new f = Stands-serves old policy _ served f.mid f.serves

Stands-frame : (old : State) (policy : Fixed) (cuts : CutList) (served : Served) (rest : ℕ) (Own : Lost → State → State → Type 0) (new : State)
    → ((lost : Lost) (mid done : State) → Own lost mid done → Stands mid done) → Frame old policy cuts served rest Own new → Stands old new
Stands-frame old policy cuts served rest Own new own f =
    Stands-same old new (emptied _ f.done) f.left (Stands-then old f.mid f.done (Stands-mid old policy cuts served rest Own new f) (own _ f.mid f.done f.own))

Stands-round : (old : State) (cuts : CutList) (answer : RoundReply) (new : State) → Rounds old cuts answer new → Stands old new
Stands-round old cuts RoundReply.NoAddress new h = Stands-same old new old h.1 (refl, refl)
Stands-round old cuts RoundReply.Done new h = (ap (λ (s : State). s.active) h.2, ap (λ (s : State). s.in_session) h.2)
Stands-round old cuts RoundReply.Nobody new h = (ap (λ (s : State). s.active) h.3, ap (λ (s : State). s.in_session) h.3)
Stands-round old cuts (RoundReply.Assigned a i) new h = (ap (λ (s : State). s.active) h.3, ap (λ (s : State). s.in_session) h.3)

still : (mid done : State) → done ≡ mid → Stands mid done
still mid done e = Stands-same mid done mid e (refl, refl)

Settles-acts : (old : State) (event : Event) (reply : Reply) (new : State) → Acts old event reply new → Settles old event reply new
Settles-acts old (Attach s setup) reply new h =
    Settles-stands old (Attach s setup) reply new (ap (λ r. session_after r old.in_session) h.0) (ap is_handed h.0) (ap (λ (st : State). st.active) h.1, ap (λ (st : State). st.in_session) h.1)
Settles-acts old (DropOff s) reply new h =
    Settles-stands old (DropOff s) reply new (ap (λ r. session_after r old.in_session) h.0) (ap is_handed h.0) (ap (λ (st : State). st.active) h.1, ap (λ (st : State). st.in_session) h.1)
Settles-acts old (Raise s byte) reply new h =
    Settles-stands old (Raise s byte) reply new (ap (λ r. session_after r old.in_session) h.0) (ap is_handed h.0) (ap (λ (st : State). st.active) h.1, ap (λ (st : State). st.in_session) h.1)
Settles-acts old (AskJoin s) reply new h =
    Settles-stands old (AskJoin s) reply new (ap (λ r. session_after r old.in_session) h.0) (ap is_handed h.0) (ap (λ (st : State). st.active) h.1, ap (λ (st : State). st.in_session) h.1)
Settles-acts old (Serve policy cuts) reply new h =
    Settles-stands old (Serve policy cuts) reply new (ap (λ r. session_after r old.in_session) h.1) (ap is_handed h.1) (Stands-frame old policy cuts h.0 _ _ new (λ lost mid done e. still mid done e) h.2)
Settles-acts old (Enec to kinds policy cuts) reply new h =
    Settles-stands old (Enec to kinds policy cuts) reply new (ap (λ r. session_after r old.in_session) h.1) (ap is_handed h.1) (Stands-frame old policy cuts h.0.served _ _ new (Stands-rekinds to _ _) h.2)
Settles-acts old (Disec to kinds policy cuts) reply new h =
    Settles-stands old (Disec to kinds policy cuts) reply new (ap (λ r. session_after r old.in_session) h.1) (ap is_handed h.1) (Stands-frame old policy cuts h.0.served _ _ new (Stands-rekinds to _ _) h.2)
Settles-acts old (AskRole s) reply new h =
    Settles-stands old (AskRole s) reply new (ap (λ r. session_after r old.in_session) h.0) (ap is_handed h.0) (ap (λ (st : State). st.active) h.1, ap (λ (st : State). st.in_session) h.1)
Settles-acts old (Reset policy cuts) reply new h =
    Settles-stands old (Reset policy cuts) reply new (ap (λ r. session_after r old.in_session) h.1) (ap is_handed h.1)
    (Stands-frame old policy cuts h.0 _ _ new (λ lost mid done e. (ap (λ (st : State). st.active) e, ap (λ (st : State). st.in_session) e)) h.2)
Settles-acts old (SendList policy cuts) reply new h =
    Settles-stands old (SendList policy cuts) reply new (ap (λ r. session_after r old.in_session) h.1) (ap is_handed h.1)
    (Stands-frame old policy cuts h.0 _ _ new (λ lost mid done e. (ap (λ (st : State). st.active) e, ap (λ (st : State). st.in_session) e)) h.2)
Settles-acts old (ReadFrom a policy cuts) reply new h =
    Settles-stands old (ReadFrom a policy cuts) reply new (ap (λ r. session_after r old.in_session) h.1) (ap is_handed h.1)
    (Stands-frame old policy cuts h.0.served _ _ new (reads_keep Stands (λ st. (refl, refl)) a h.0.answer) h.2)
Settles-acts old (WriteTo a bytes policy cuts) reply new h =
    Settles-stands old (WriteTo a bytes policy cuts) reply new (ap (λ r. session_after r old.in_session) h.1) (ap is_handed h.1)
    (Stands-frame old policy cuts h.0.served _ _ new (writes_keep Stands a bytes.items (λ st. (refl, refl)) (λ st. (refl, refl)) h.0.answer) h.2)
Settles-acts old (SetStatic f to policy cuts) reply new h =
    Settles-stands old (SetStatic f to policy cuts) reply new (ap (λ r. session_after r old.in_session) h.1) (ap is_handed h.1)
    (Stands-frame old policy cuts h.0.served _ _ new (statics_keep Stands f to (λ st. (refl, refl)) (λ i st. (refl, refl)) h.0.answer) h.2)
Settles-acts old (SetNew a to policy cuts) reply new h =
    Settles-stands old (SetNew a to policy cuts) reply new (ap (λ r. session_after r old.in_session) h.1) (ap is_handed h.1)
    (Stands-frame old policy cuts h.0.served _ _ new (news_keep Stands a to (λ st. (refl, refl)) (λ st. (refl, refl)) h.0.answer) h.2)
Settles-acts old (Get what a policy cuts) reply new h =
    Settles-stands old (Get what a policy cuts) reply new (ap (λ r. session_after r old.in_session) h.1) (ap is_handed h.1)
    (Stands-frame old policy cuts h.0.served _ _ new (gets_keep Stands (λ st. (refl, refl)) what a h.0.answer) h.2)
Settles-acts old (SetLength way most to policy cuts) reply new h =
    Settles-stands old (SetLength way most to policy cuts) reply new (ap (λ r. session_after r old.in_session) h.1) (ap is_handed h.1)
    (Stands-frame old policy cuts h.0.served _ _ new (lengths_keep Stands to way most (λ st. (refl, refl)) (λ st. (refl, refl)) h.0.answer) h.2)
Settles-acts old (OpenDaa cuts) reply new h = (
  inl (ap is_handed h.1, ap (λ (st : State). st.active) h.2.left ∙ (ap (λ (st : State). st.active) h.2.own ∙ (Stands-mid old _ cuts h.0 _ _ new h.2).0)),
  ap (λ (st : State). st.in_session) h.2.left ∙ (ap (λ (st : State). st.in_session) h.2.own ∙ sym (ap (λ r. session_after r old.in_session) h.1)),
)
Settles-acts old (HandOver to cuts) reply new h = elim h [
  | inl g ↦
      let x = granted old to cuts reply new g in
      let slot : new.active ≡ x.slot = ap (λ (st : State). st.active) x.after in (
        inr (ap is_handed g.1, (to, cuts, refl, subst (IsWillingAt old to) (sym slot) x.willing)),
        ap (λ (st : State). st.in_session) x.after ∙ sym (ap (λ r. session_after r old.in_session) g.1),
      )
  | inr g ↦
      let x = declined old to cuts reply new g in
      Settles-stands old (HandOver to cuts) reply new (ap (λ r. session_after r old.in_session) g.2) (ap is_handed g.2)
      (ap (λ (st : State). st.active) x.1, ap (λ (st : State). st.in_session) x.1)
]
Settles-acts old (Round cuts) reply new h =
    Settles-stands old (Round cuts) reply new (ap (λ r. session_after r old.in_session) h.1) (ap is_handed h.1) (Stands-round old cuts h.0 new h.2)
Settles-acts old EndDaa reply new h = (inl (ap is_handed h.0, ap (λ (st : State). st.active) h.1), ap (λ (st : State). st.in_session) h.1 ∙ sym (ap (λ r. session_after r old.in_session) h.0))

Settles-idle : (old : State) (event : Event) (reply : Reply) (new : State) → IsIdle reply → new ≡ old → Settles old event reply new
Settles-idle old event reply new (refused why r) e = Settles-stands old event reply new (ap (λ x. session_after x old.in_session) r) (ap is_handed r) (still old new e)
Settles-idle old event reply new (short r) e = Settles-stands old event reply new (ap (λ x. session_after x old.in_session) r) (ap is_handed r) (still old new e)

pub Settles-step : (old : State) (event : Event) (reply : Reply) (new : State) → Step old event reply new → Settles old event reply new
Settles-step old event reply new h = step_cases old event reply new h (λ idle e. Settles-idle old event reply new idle e) (λ free acts. Settles-acts old event reply new acts)

pub slots_kept : (old : State) (event : Event) (reply : Reply) (new : State) → Step old event reply new → KeepsSlots old event reply new
slots_kept old event reply new h =
    let settles = Settles-step old event reply new h in
    record {
      active = λ k. elim settles.0 [ inl x ↦ x.1 | inr x ↦ absurd (both_ways (is_handed reply) k x.0) ];
      moved = λ k. elim settles.0 [ inl x ↦ absurd (both_ways (is_handed reply) x.0 k) | inr x ↦ x.1 ];
      session = settles.1;
      enters = λ s p. elim ((Came-step old event reply new h).0 s p.0 p.1) [
        | inl a ↦ inr a.0
        | inr x ↦ inl (x.0, x.1)
      ];
    }
