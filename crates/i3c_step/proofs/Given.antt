-- The policy that a reply gives serves as the one that was asked.
use Rattle.std.proofs.Common.{◌≡◌, ℕ, ◌+◌, Bool, true, false, Option, Some, None, is_some, MatchOption, if◌then◌else◌, ◌⊎◌, inl, inr, sym, refl, ap, subst}
use Rattle.i3c_base.specs.declared.requests.Fixed.{Fixed}
use Rattle.i3c_base.specs.declared.requests.Served.{Served}
use Rattle.i3c_base.specs.declared.requests.Served.TheVariants.{Quiet, Recorded, Refused, Torn, Joining, WantsRole}
use Rattle.i3c_base.specs.declared.requests.Verdict.{Verdict}
use Rattle.i3c_base.specs.declared.requests.Verdict.TheVariants.{Accept, Refuse}
use Rattle.i3c_base.specs.Cutting.{CutList, Lost, lost_by}
use Rattle.i3c_base.specs.Serve.{Frame, Serves, given_for}
use Rattle.i3c_base.specs.State.{State, entry_at}
use Rattle.i3c_base.proofs.Verdicts.{refuses}
use Rattle.i3c_step.specs.declared.events.Event.{Event}
use Rattle.i3c_step.specs.declared.events.Event.TheVariants.{Attach, DropOff, Raise, AskJoin, AskRole, Serve, Enec, Disec, Reset, SendList, ReadFrom, WriteTo, SetStatic, SetNew, Get, SetLength, OpenDaa, Round, EndDaa, HandOver}
use Rattle.i3c_step.specs.declared.replies.Refusal.{Refusal}
use Rattle.i3c_step.specs.declared.replies.Reply.{Reply}
use Rattle.i3c_step.specs.Giving.{given_by, under}
use Rattle.i3c_step.specs.Step.{Acts, IsShort, Step, checks, first_refusal}
use Rattle.i3c_step.proofs.Uniqueness.{accept≢refuse}

-- whatever accepts where the table has an entry, the entry is there
accepted_known : (b : Bool) (v : Verdict) → (if b then v else Refuse) ≡ Accept → (if b then Accept else Refuse) ≡ Accept
accepted_known true v h = refl
accepted_known false v h = absurd (accept≢refuse (sym h))

serves_given : (st : State) (policy : Fixed) (lost : Lost) (served : Served) (new : State) → Serves st policy lost served new → Serves st (given_for served) lost served new
serves_given st policy lost Quiet new h = h
serves_given st policy lost Refused new h = ((h.0.0, h.0.1, refuses st h.0.0), h.1)
serves_given st policy lost Joining new h = (h.0, refl, h.2)
serves_given st policy lost (WantsRole a) new h = (h.0, accepted_known (is_some (entry_at st a)) policy.role h.1, h.2)
serves_given st policy lost (Recorded place) new h = record {
  at = h.at;
  slot = h.slot;
  front = h.front;
  byte = h.byte;
  first = h.first;
  accepted = accepted_known (is_some (entry_at st h.at)) policy.interrupt h.accepted;
  lowest = h.lowest;
  fronted = h.fronted;
  read = h.read;
  placed = h.placed;
  left = h.left;
}
serves_given st policy lost Torn new h = record {
  at = h.at;
  first = h.first;
  accepted = accepted_known (is_some (entry_at st h.at)) policy.interrupt h.accepted;
  due = h.due;
  gone = h.gone;
  left = h.left;
}

frame_given : (old : State) (policy : Fixed) (cuts : CutList) (served : Served) (rest : ℕ) (Own : Lost → State → State → Type 0) (new : State) → Frame old policy cuts served rest Own new
    → Frame old (given_for served) cuts served rest Own new
frame_given old policy cuts served rest Own new h = record {
  word = h.word;
  mid = h.mid;
  done = h.done;
  sent = h.sent;
  serves = serves_given old policy (lost_by cuts (h.word + rest)) served h.mid h.serves;
  own = h.own;
  left = h.left;
}

frame_under : (old : State) (policy other : Fixed) (cuts : CutList) (served : Served) (rest : ℕ) (Own : Lost → State → State → Type 0) (new : State) → other ≡ given_for served
    → Frame old policy cuts served rest Own new → Frame old other cuts served rest Own new
frame_under old policy other cuts served rest Own new e h = subst (λ p. Frame old p cuts served rest Own new) (sym e) (frame_given old policy cuts served rest Own new h)

-- a step of the same tests, where what acts acts so too
pub step_like : (old : State) (event other : Event) (reply : Reply) (new : State) → checks old other ≡ checks old event → (IsShort old event reply new → IsShort old other reply new)
    → (Acts old event reply new → Acts old other reply new) → Step old event reply new → Step old other reply new
step_like old event other reply new same short acts h =
    subst (λ cs. MatchOption (first_refusal cs) (IsShort old other reply new ⊎ Acts old other reply new) (λ why. (reply ≡ Reply.Refused why) × (new ≡ old))) (sym same) (go (first_refusal (checks old event)) h)
  where
    go : (o : Option Refusal) → MatchOption o (IsShort old event reply new ⊎ Acts old event reply new) (λ why. (reply ≡ Reply.Refused why) × (new ≡ old))
        → MatchOption o (IsShort old other reply new ⊎ Acts old other reply new) (λ why. (reply ≡ Reply.Refused why) × (new ≡ old))
    go (Some why) k = k
    go None k = elim k [ inl s ↦ inl (short s) | inr a ↦ inr (acts a) ]

pub step_given : (old : State) (event : Event) (reply : Reply) (new : State) → Step old event reply new → Step old (under (given_by reply) event) reply new
step_given old (Serve policy cuts) reply new h = step_like old (Serve policy cuts) (Serve (given_by reply) cuts) reply new refl (λ s. s)
    (λ a. (a.0, a.1, frame_under old policy (given_by reply) cuts a.0 _ _ new (ap given_by a.1) a.2)) h
step_given old (Enec to kinds policy cuts) reply new h = step_like old (Enec to kinds policy cuts) (Enec to kinds (given_by reply) cuts) reply new refl (λ s. s)
    (λ a. (a.0, a.1, frame_under old policy (given_by reply) cuts a.0.served _ _ new (ap given_by a.1) a.2)) h
step_given old (Disec to kinds policy cuts) reply new h = step_like old (Disec to kinds policy cuts) (Disec to kinds (given_by reply) cuts) reply new refl (λ s. s)
    (λ a. (a.0, a.1, frame_under old policy (given_by reply) cuts a.0.served _ _ new (ap given_by a.1) a.2)) h
step_given old (Reset policy cuts) reply new h = step_like old (Reset policy cuts) (Reset (given_by reply) cuts) reply new refl (λ s. s)
    (λ a. (a.0, a.1, frame_under old policy (given_by reply) cuts a.0 _ _ new (ap given_by a.1) a.2)) h
step_given old (SendList policy cuts) reply new h = step_like old (SendList policy cuts) (SendList (given_by reply) cuts) reply new refl (λ s. s)
    (λ a. (a.0, a.1, frame_under old policy (given_by reply) cuts a.0 _ _ new (ap given_by a.1) a.2)) h
step_given old (ReadFrom a policy cuts) reply new h = step_like old (ReadFrom a policy cuts) (ReadFrom a (given_by reply) cuts) reply new refl (λ s. s)
    (λ x. (x.0, x.1, frame_under old policy (given_by reply) cuts x.0.served _ _ new (ap given_by x.1) x.2)) h
step_given old (WriteTo a bytes policy cuts) reply new h = step_like old (WriteTo a bytes policy cuts) (WriteTo a bytes (given_by reply) cuts) reply new refl (λ s. s)
    (λ x. (x.0, x.1, frame_under old policy (given_by reply) cuts x.0.served _ _ new (ap given_by x.1) x.2)) h
step_given old (SetStatic f to policy cuts) reply new h = step_like old (SetStatic f to policy cuts) (SetStatic f to (given_by reply) cuts) reply new refl (λ s. s)
    (λ x. (x.0, x.1, frame_under old policy (given_by reply) cuts x.0.served _ _ new (ap given_by x.1) x.2)) h
step_given old (SetNew a to policy cuts) reply new h = step_like old (SetNew a to policy cuts) (SetNew a to (given_by reply) cuts) reply new refl (λ s. s)
    (λ x. (x.0, x.1, frame_under old policy (given_by reply) cuts x.0.served _ _ new (ap given_by x.1) x.2)) h
step_given old (Get what a policy cuts) reply new h = step_like old (Get what a policy cuts) (Get what a (given_by reply) cuts) reply new refl (λ s. s)
    (λ x. (x.0, x.1, frame_under old policy (given_by reply) cuts x.0.served _ _ new (ap given_by x.1) x.2)) h
step_given old (SetLength way most to policy cuts) reply new h = step_like old (SetLength way most to policy cuts) (SetLength way most to (given_by reply) cuts) reply new refl (λ s. s)
    (λ x. (x.0, x.1, frame_under old policy (given_by reply) cuts x.0.served _ _ new (ap given_by x.1) x.2)) h
step_given old (AskRole s) reply new h = h
step_given old (Attach s setup) reply new h = h
step_given old (DropOff s) reply new h = h
step_given old (Raise s byte) reply new h = h
step_given old (AskJoin s) reply new h = h
step_given old (OpenDaa cuts) reply new h = h
step_given old (Round cuts) reply new h = h
step_given old (HandOver to cuts) reply new h = h
step_given old EndDaa reply new h = h
