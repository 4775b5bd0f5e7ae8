-- Policies that agree on the first request serve it alike.
use Rattle.std.proofs.Common.{◌≡◌, ℕ, List, true, false, ◌+◌, Option, Some, None, MatchOption, if◌then◌else◌, ◌⊎◌, inl, inr, sym, refl, ap, subst, ◌∙◌}
use Rattle.std.proofs.lemmas.Bool.{both_ways}
use Rattle.i3c_base.specs.declared.requests.Fixed.{Fixed}
use Rattle.i3c_base.specs.declared.requests.Request.{Request}
use Rattle.i3c_base.specs.declared.requests.Request.TheVariants.{Join, Role, Interrupt}
use Rattle.i3c_base.specs.declared.answers.Answer.{Answer}
use Rattle.i3c_base.specs.declared.requests.Served.{Served}
use Rattle.i3c_base.specs.declared.requests.Served.TheVariants.{Quiet, Recorded, Refused, Torn, Joining, WantsRole}
use Rattle.i3c_base.specs.declared.requests.Verdict.{Verdict}
use Rattle.i3c_base.specs.declared.requests.Verdict.TheVariants.{Refuse}
use Rattle.i3c_base.specs.Cutting.{CutList, Lost, lost_by}
use Rattle.i3c_base.specs.State.{Held, State}
use Rattle.i3c_base.specs.Serve.{Frame, IsFirst, Serves, given_for, verdict}
use Rattle.i3c_frame.specs.declared.symbols.Symbol.{Symbol}
use Rattle.i3c_ibi.specs.Policies.{Decides, is_known, verdict_in}
use Rattle.i3c_bus.specs.Asking.{Asks}
use Rattle.i3c_step.specs.Giving.{given_by}
use Rattle.i3c_bus.specs.Calls.{Carries}
use Rattle.i3c_step.specs.Commands.{event_of}
use Rattle.i3c_bus.specs.Wire.{IsWire}
use Rattle.i3c_step.specs.declared.events.Command.{Command}
use Rattle.i3c_bus.specs.declared.hand.Hand.{Hand}
use Rattle.i3c_step.specs.Step.{Acts, IsShort, Step, checks, first_refusal}
use Rattle.i3c_step.specs.declared.events.Event.{Event}
use Rattle.i3c_step.specs.declared.replies.Refusal.{Refusal}
use Rattle.i3c_step.specs.declared.replies.Framed.{Framed}
use Rattle.i3c_step.specs.declared.replies.Reply.{Reply}
use Rattle.i3c_step.proofs.Uniqueness.{first_unique}

-- they have one verdict on whichever request comes first
pub Agree : State → Fixed → Fixed → Type 0
Agree st f g = (r : Request) → IsFirst st r → verdict st f r ≡ verdict st g r

serves_as : (st : State) (f g : Fixed) (lost : Lost) (served : Served) (new : State) → Agree st f g → Serves st f lost served new → Serves st g lost served new
unfolding Agree
serves_as st f g lost Quiet new agree h = h
serves_as st f g lost Refused new agree h = ((h.0.0, h.0.1, sym (agree h.0.0 h.0.1) ∙ h.0.2), h.1)
serves_as st f g lost Joining new agree h = (h.0, sym (agree Join h.0) ∙ h.1, h.2)
serves_as st f g lost (WantsRole a) new agree h = (h.0, sym (agree (Role a) h.0) ∙ h.1, h.2)
serves_as st f g lost (Recorded place) new agree h = record {
  at = h.at;
  slot = h.slot;
  front = h.front;
  byte = h.byte;
  first = h.first;
  accepted = sym (agree (Interrupt h.at) h.first) ∙ h.accepted;
  lowest = h.lowest;
  fronted = h.fronted;
  read = h.read;
  placed = h.placed;
  left = h.left;
}
serves_as st f g lost Torn new agree h = record { at = h.at; first = h.first; accepted = sym (agree (Interrupt h.at) h.first) ∙ h.accepted; due = h.due; gone = h.gone; left = h.left }

frame_as : (old : State) (f g : Fixed) (cuts : CutList) (served : Served) (rest : ℕ) (Own : Lost → State → State → Type 0) (new : State) → Agree old f g → Frame old f cuts served rest Own new → Frame old g cuts served rest Own new
frame_as old f g cuts served rest Own new agree h = record {
  word = h.word;
  mid = h.mid;
  done = h.done;
  sent = h.sent;
  serves = serves_as old f g (lost_by cuts (h.word + rest)) served h.mid agree h.serves;
  own = h.own;
  left = h.left;
}

-- a policy's verdict on a request that the table knows, and on one that it doesn't
verdict_known : (st : State) (f : Fixed) (r : Request) → is_known st.given r ≡ true → verdict st f r ≡ verdict_in f r
verdict_known st f Join k = refl
verdict_known st f (Role a) k = ap (λ b. if b then f.role else Refuse) k
verdict_known st f (Interrupt a) k = ap (λ b. if b then f.interrupt else Refuse) k

verdict_unknown : (st : State) (f : Fixed) (r : Request) → is_known st.given r ≡ false → verdict st f r ≡ Refuse
verdict_unknown st f Join k = absurd (both_ways _ k refl)
verdict_unknown st f (Role a) k = ap (λ b. if b then f.role else Refuse) k
verdict_unknown st f (Interrupt a) k = ap (λ b. if b then f.interrupt else Refuse) k

-- what a fixed policy may do: it stays as it is, and gives its verdict
abbrev pub fixed_gives : Fixed → Request → Verdict → Fixed → Type 0
fixed_gives old request verdict new = (new ≡ old) × (verdict ≡ verdict_in old request)

-- the policy that a fixed one was asked as agrees with it
decides_agree : (st : State) (p q f : Fixed) → Decides fixed_gives p q st f → Agree st f p
unfolding Agree
decides_agree st p q f h r first = elim h [
  | inl none ↦ absurd (both_ways _ (none.0 first.driven.0 r) first.driven.1)
  | inr other ↦ elim other [
    | inl k ↦
        let same : r ≡ k.0 = first_unique st r k.0 first k.1 in
        let known : is_known st.given r ≡ true = ap (is_known st.given) same ∙ k.2 in
        let verdicts : verdict_in f r ≡ verdict_in p r = subst (λ x. verdict_in f x ≡ verdict_in p x) (sym same) k.3.1 in
        verdict_known st f r known ∙ (verdicts ∙ sym (verdict_known st p r known))
    | inr u ↦
        let same : r ≡ u.0 = first_unique st r u.0 first u.1 in
        let unknown : is_known st.given r ≡ false = ap (is_known st.given) same ∙ u.2 in
        verdict_unknown st f r unknown ∙ sym (verdict_unknown st p r unknown)
  ]
]

-- what was asked as a frame with this reply served agrees with the policy
asked_agree : (st : State) (p q : Fixed) (reply like : Reply) (f : Fixed) → reply ≡ like → given_by like ≡ f → (Asks fixed_gives p q st like → Decides fixed_gives p q st f) → Asks fixed_gives p q st reply → Agree st (given_by reply) p
asked_agree st p q reply like f same is decides asks =
    subst (λ (g : Fixed). Agree st g p) (sym (ap given_by same ∙ is)) (decides_agree st p q f (decides (subst (λ (r : Reply). Asks fixed_gives p q st r) same asks)))

-- what a step's first refusal leaves to be shown
abbrev Out : State → Event → Reply → State → Option Refusal → Type 0
Out old event reply new o = MatchOption o (IsShort old event reply new ⊎ Acts old event reply new) (λ why. (reply ≡ Reply.Refused why) × (new ≡ old))

-- a step of one of two events that are tested alike, whose acts the other does too, is one of the other
acts_as : (old : State) (mine other : Event) (reply : Reply) (new : State) → first_refusal (checks old mine) ≡ first_refusal (checks old other) → (IsShort old mine reply new → IsShort old other reply new)
    → (Acts old mine reply new → Acts old other reply new) → Step old mine reply new → Step old other reply new
acts_as old mine other reply new same short acts h = go (first_refusal (checks old other)) (subst (Out old mine reply new) same h)
  where
    go : (o : Option Refusal) → Out old mine reply new o → Out old other reply new o
    go (Some why) k = k
    go None k = elim k [ inl s ↦ inl (short s) | inr a ↦ inr (acts a) ]

-- a frame to all that is done
abbrev done : Served → Framed
done served = record { served = served; answer = Answer.Done }

-- a command under a policy that was asked as what it gave
step_asked : (command : Command) (old : State) (p q : Fixed) (cuts : CutList) (reply : Reply) (new : State) → Asks fixed_gives p q old reply
    → Step old (event_of command (given_by reply) cuts) reply new → Step old (event_of command p cuts) reply new
step_asked Command.Serve old p q cuts reply new asks h =
    acts_as old (Event.Serve (given_by reply) cuts) (Event.Serve p cuts) reply new refl (λ s. s)
    (λ acts. (acts.0, acts.1, frame_as old (given_by reply) p cuts acts.0 _ _ new (asked_agree old p q reply (Reply.Served acts.0) (given_for acts.0) acts.1 refl (λ d. d) asks) acts.2)) h
step_asked (Command.Enec to kinds) old p q cuts reply new asks h =
    acts_as old (Event.Enec to kinds (given_by reply) cuts) (Event.Enec to kinds p cuts) reply new refl (λ s. s)
    (λ acts. (acts.0, acts.1, frame_as old (given_by reply) p cuts acts.0.served _ _ new (asked_agree old p q reply (Reply.Framed acts.0) (given_for acts.0.served) acts.1 refl (λ d. d) asks) acts.2)) h
step_asked (Command.Disec to kinds) old p q cuts reply new asks h =
    acts_as old (Event.Disec to kinds (given_by reply) cuts) (Event.Disec to kinds p cuts) reply new refl (λ s. s)
    (λ acts. (acts.0, acts.1, frame_as old (given_by reply) p cuts acts.0.served _ _ new (asked_agree old p q reply (Reply.Framed acts.0) (given_for acts.0.served) acts.1 refl (λ d. d) asks) acts.2)) h
step_asked Command.Reset old p q cuts reply new asks h =
    acts_as old (Event.Reset (given_by reply) cuts) (Event.Reset p cuts) reply new refl (λ s. s)
    (λ acts. (acts.0, acts.1, frame_as old (given_by reply) p cuts acts.0 _ _ new (asked_agree old p q reply (Reply.Framed (done acts.0)) (given_for acts.0) acts.1 refl (λ d. d) asks) acts.2)) h
step_asked Command.SendList old p q cuts reply new asks h =
    acts_as old (Event.SendList (given_by reply) cuts) (Event.SendList p cuts) reply new refl (λ s. s)
    (λ acts. (acts.0, acts.1, frame_as old (given_by reply) p cuts acts.0 _ _ new (asked_agree old p q reply (Reply.Framed (done acts.0)) (given_for acts.0) acts.1 refl (λ d. d) asks) acts.2)) h
step_asked (Command.ReadFrom a) old p q cuts reply new asks h =
    acts_as old (Event.ReadFrom a (given_by reply) cuts) (Event.ReadFrom a p cuts) reply new refl (λ s. s)
    (λ acts. (acts.0, acts.1, frame_as old (given_by reply) p cuts acts.0.served _ _ new (asked_agree old p q reply (Reply.Framed acts.0) (given_for acts.0.served) acts.1 refl (λ d. d) asks) acts.2)) h
step_asked (Command.WriteTo a bytes) old p q cuts reply new asks h =
    acts_as old (Event.WriteTo a bytes (given_by reply) cuts) (Event.WriteTo a bytes p cuts) reply new refl (λ s. s)
    (λ acts. (acts.0, acts.1, frame_as old (given_by reply) p cuts acts.0.served _ _ new (asked_agree old p q reply (Reply.Framed acts.0) (given_for acts.0.served) acts.1 refl (λ d. d) asks) acts.2)) h
step_asked (Command.SetStatic f to) old p q cuts reply new asks h =
    acts_as old (Event.SetStatic f to (given_by reply) cuts) (Event.SetStatic f to p cuts) reply new refl (λ s. s)
    (λ acts. (acts.0, acts.1, frame_as old (given_by reply) p cuts acts.0.served _ _ new (asked_agree old p q reply (Reply.Framed acts.0) (given_for acts.0.served) acts.1 refl (λ d. d) asks) acts.2)) h
step_asked (Command.SetNew a to) old p q cuts reply new asks h =
    acts_as old (Event.SetNew a to (given_by reply) cuts) (Event.SetNew a to p cuts) reply new refl (λ s. s)
    (λ acts. (acts.0, acts.1, frame_as old (given_by reply) p cuts acts.0.served _ _ new (asked_agree old p q reply (Reply.Framed acts.0) (given_for acts.0.served) acts.1 refl (λ d. d) asks) acts.2)) h
step_asked (Command.Get what a) old p q cuts reply new asks h =
    acts_as old (Event.Get what a (given_by reply) cuts) (Event.Get what a p cuts) reply new refl (λ s. s)
    (λ acts. (acts.0, acts.1, frame_as old (given_by reply) p cuts acts.0.served _ _ new (asked_agree old p q reply (Reply.Framed acts.0) (given_for acts.0.served) acts.1 refl (λ d. d) asks) acts.2)) h
step_asked (Command.SetLength way most to) old p q cuts reply new asks h =
    acts_as old (Event.SetLength way most to (given_by reply) cuts) (Event.SetLength way most to p cuts) reply new refl (λ s. s)
    (λ acts. (acts.0, acts.1, frame_as old (given_by reply) p cuts acts.0.served _ _ new (asked_agree old p q reply (Reply.Framed acts.0) (given_for acts.0.served) acts.1 refl (λ d. d) asks) acts.2)) h

-- its wire doesn't depend on the policy
wire_asked : (command : Command) (f g : Fixed) (cuts : CutList) (old : State) (reply : Reply) (new : State) (Told : (List Symbol → Type 0) → Type 0)
    → Told (IsWire old (event_of command f cuts) reply new) → Told (IsWire old (event_of command g cuts) reply new)
wire_asked Command.Serve f g cuts old reply new Told h = h
wire_asked (Command.Enec to kinds) f g cuts old reply new Told h = h
wire_asked (Command.Disec to kinds) f g cuts old reply new Told h = h
wire_asked Command.Reset f g cuts old reply new Told h = h
wire_asked Command.SendList f g cuts old reply new Told h = h
wire_asked (Command.ReadFrom a) f g cuts old reply new Told h = h
wire_asked (Command.WriteTo a bytes) f g cuts old reply new Told h = h
wire_asked (Command.SetStatic fixed to) f g cuts old reply new Told h = h
wire_asked (Command.SetNew a to) f g cuts old reply new Told h = h
wire_asked (Command.Get what a) f g cuts old reply new Told h = h
wire_asked (Command.SetLength way most to) f g cuts old reply new Told h = h

-- a command carried out under what its policy gave is carried out under the policy
pub carried_asked : (command : Command) (old new : Held) (p q : Fixed) (cuts : CutList) (reply : Reply) (hand : Hand) (Told : (List Symbol → Type 0) → Type 0) → Asks fixed_gives p q old.state reply
    → Carries old new (event_of command (given_by reply) cuts) reply hand Told → Carries old new (event_of command p cuts) reply hand Told
carried_asked command old new p q cuts reply hand Told asks h = record {
  step = step_asked command old.state p q cuts reply new.state asks h.step;
  told = wire_asked command (given_by reply) p cuts old.state reply new.state Told h.told;
  fits = h.fits;
  room = h.room;
}
