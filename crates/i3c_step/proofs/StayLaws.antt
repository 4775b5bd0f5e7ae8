-- Stays begin by attachments.
use Rattle.std.proofs.lemmas.Bool.{and_parts, cond-false, cond-true, eq-eqb, eqb-true, false≢true}
use Rattle.std.proofs.lemmas.Option.{none-some}
use Rattle.std.proofs.Common.{◌≡◌, ℕ, Bool, true, false, ◌&&◌, [], ◌∷◌, ◌++◌, Option, Some, None, is_some, inl, inr, sym, refl, ap, ◌∙◌, subst}
use Rattle.i3c_base.specs.State.{Device, State, device_at}
use Rattle.i3c_step.specs.declared.events.Event.{Event}
use Rattle.i3c_step.specs.declared.events.Event.TheVariants.{Attach, DropOff, Raise, AskJoin, AskRole, Serve, Enec, Disec, Reset, SendList, ReadFrom, WriteTo, SetStatic, SetNew, Get, SetLength, OpenDaa, Round, EndDaa, HandOver}
use Rattle.i3c_step.specs.declared.replies.Reply.{Reply}
use Rattle.i3c_step.specs.History.{History, IsLegal, Moment, reached}
use Rattle.i3c_step.specs.Slots.{HasAttached}
use Rattle.i3c_step.specs.Stays.{accepted_at, accepted_in_stay, accepted_since_attachment, is_attached, is_into, stays}
use Rattle.i3c_step.specs.Step.{Step, checks, first_refusal}
use Rattle.i3c_step.proofs.Follows.{Came-step}
use Rattle.i3c_step.proofs.Steps.{IsIdle, no_test, refused, short, step_cases}

none_of : {A : Type 0} (o : Option A) → is_some o ≡ false → o ≡ None
none_of None h = refl
none_of (Some x) h = absurd (false≢true (sym h))

idle_attaches : (reply : Reply) → IsIdle reply → reply ≡ Reply.Attached → ⊥
idle_attaches reply (refused why r) e = let k : Reply.Refused why ≡ Reply.Attached = sym r ∙ e in cc
idle_attaches reply (short r) e = let k : Reply.OutOfMemory ≡ Reply.Attached = sym r ∙ e in cc

-- a device is attached in an empty slot
pub attached_free : (old : State) (event : Event) (reply : Reply) (new : State) (s : ℕ) → Step old event reply new → HasAttached event reply s → device_at old s ≡ None
attached_free old event reply new s h a =
    step_cases old event reply new h (λ idle e. absurd (idle_attaches reply idle a.2))
    (λ free acts. none_of (device_at old s) (no_test 0 (checks old (Attach s a.0)) (subst (λ e. first_refusal (checks old e) ≡ None) a.1 free)))

-- an attachment into the slot is one
is_attached-true : (reply : Reply) → is_attached reply ≡ true → reply ≡ Reply.Attached
is_attached-true (Reply.Refused why) h = absurd (false≢true h)
is_attached-true Reply.OutOfMemory h = absurd (false≢true h)
is_attached-true Reply.Attached h = refl
is_attached-true Reply.Dropped h = absurd (false≢true h)
is_attached-true (Reply.Raised number) h = absurd (false≢true h)
is_attached-true Reply.Asked h = absurd (false≢true h)
is_attached-true (Reply.Served served) h = absurd (false≢true h)
is_attached-true (Reply.Framed framed) h = absurd (false≢true h)
is_attached-true (Reply.Opened served) h = absurd (false≢true h)
is_attached-true (Reply.Round answer) h = absurd (false≢true h)
is_attached-true (Reply.Handed served) h = absurd (false≢true h)
is_attached-true Reply.Ended h = absurd (false≢true h)

into-true : (event : Event) (reply : Reply) (s : ℕ) → reply ≡ Reply.Attached → is_into s event ≡ true → HasAttached event reply s
into-true (Attach t setup) reply s e h = (setup, ap (λ k. Attach k setup) (eqb-true t s h), e)
into-true (DropOff t) reply s e h = absurd (false≢true h)
into-true (Raise t byte) reply s e h = absurd (false≢true h)
into-true (AskJoin t) reply s e h = absurd (false≢true h)
into-true (Serve policy cuts) reply s e h = absurd (false≢true h)
into-true (Enec to kinds policy cuts) reply s e h = absurd (false≢true h)
into-true (Disec to kinds policy cuts) reply s e h = absurd (false≢true h)
into-true (AskRole t) reply s e h = absurd (false≢true h)
into-true (Reset policy cuts) reply s e h = absurd (false≢true h)
into-true (SendList policy cuts) reply s e h = absurd (false≢true h)
into-true (ReadFrom a policy cuts) reply s e h = absurd (false≢true h)
into-true (WriteTo a bytes policy cuts) reply s e h = absurd (false≢true h)
into-true (SetStatic f to policy cuts) reply s e h = absurd (false≢true h)
into-true (SetNew a to policy cuts) reply s e h = absurd (false≢true h)
into-true (Get what a policy cuts) reply s e h = absurd (false≢true h)
into-true (SetLength way most to policy cuts) reply s e h = absurd (false≢true h)
into-true (OpenDaa cuts) reply s e h = absurd (false≢true h)
into-true (Round cuts) reply s e h = absurd (false≢true h)
into-true (HandOver to cuts) reply s e h = absurd (false≢true h)
into-true EndDaa reply s e h = absurd (false≢true h)

abbrev begins_at : Moment → ℕ → Bool
begins_at m s = is_attached m.reply && is_into s m.event

attached_there : (m : Moment) (s : ℕ) → begins_at m s ≡ true → HasAttached m.event m.reply s
attached_there m s h = let parts = and_parts (is_attached m.reply) (is_into s m.event) h in into-true m.event m.reply s (is_attached-true m.reply parts.0) parts.1

both : (a b : Bool) → a ≡ true → b ≡ true → (a && b) ≡ true
both true b h k = k
both false b h k = absurd (false≢true h)

neither : (a b : Bool) → a ≡ false → (a && b) ≡ false
neither true b h = absurd (false≢true (sym h))
neither false b h = refl

pub stays_begin : (start : State) (h : History) → IsLegal start h → (s : ℕ) (d : Device) → device_at (reached start h) s ≡ Some d → accepted_in_stay start h s ≡ accepted_since_attachment h s
stays_begin start [] legal s d p = refl
stays_begin start (m ∷ earlier) legal s d p = elim ((Came-step before m.event m.reply m.after legal.0).0 s d p) [
  | inl a ↦
      let gone : stays before m.after s ≡ false = neither (is_some (device_at before s)) (is_some (device_at m.after s)) (ap is_some (attached_free before m.event m.reply m.after s legal.0 a.0)) in
      cond-false (stays before m.after s) (accepted_in_stay start earlier s ++ accepted_at m s) [] gone
      ∙ sym (cond-true (begins_at m s) [] (accepted_since_attachment earlier s ++ accepted_at m s) (begun m s a.0))
  | inr x ↦
      let stay : stays before m.after s ≡ true = both (is_some (device_at before s)) (is_some (device_at m.after s)) (ap is_some x.1) (ap is_some p) in
      cond-true (stays before m.after s) (accepted_in_stay start earlier s ++ accepted_at m s) [] stay
      ∙ (ap (λ ws. ws ++ accepted_at m s) (stays_begin start earlier legal.1 s x.0 x.1)
      ∙ sym (cond-false (begins_at m s) [] (accepted_since_attachment earlier s ++ accepted_at m s) (other (begins_at m s) refl x.0 x.1)))
]
  where
    before : State
    before = reached start earlier

    begun : (n : Moment) (t : ℕ) → HasAttached n.event n.reply t → begins_at n t ≡ true
    begun n t a = (λ k. is_attached (a.2 k) && is_into t (a.1 k)) ∙ eq-eqb t t refl

    other : (b : Bool) → begins_at m s ≡ b → (x : Device) → device_at before s ≡ Some x → begins_at m s ≡ false
    other true e x there = absurd (none-some x (sym (attached_free before m.event m.reply m.after s legal.0 (attached_there m s e)) ∙ there))
    other false e x there = e
