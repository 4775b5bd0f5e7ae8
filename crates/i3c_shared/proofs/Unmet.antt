-- Refusals that a step can't meet.
use Rattle.std.proofs.Common.{◌≡◌, ℕ, Bool, true, false, not, ◌&&◌, ◌||◌, [], ◌∷◌, Option, Some, None, MatchOption, ◌⊎◌, inl, inr, if◌then◌else◌, refl, sym, ap, ◌∙◌, subst}
use Rattle.std.proofs.lemmas.Bool.{both_ways, and_parts}
use Rattle.std.proofs.lemmas.Option.{none-some}
use Rattle.i3c_base.specs.declared.requests.Fixed.{Fixed}
use Rattle.i3c_base.specs.Cutting.{CutList}
use Rattle.i3c_base.specs.State.{State}
use Rattle.i3c_step.specs.declared.events.Command.{Command}
use Rattle.i3c_step.specs.declared.events.Command.TheVariants as command
use Rattle.i3c_step.specs.declared.events.Event.{Event}
use Rattle.i3c_step.specs.declared.replies.Refusal.{Refusal}
use Rattle.i3c_step.specs.declared.replies.Reply.{Reply}
use Rattle.i3c_step.specs.Commands.{event_of}
use Rattle.i3c_step.specs.Step.{Acts, Checks, IsShort, Step, checks, first_refusal}
use Rattle.i3c_shared.specs.declared.faults.HandOverFault.{HandOverFault}
use Rattle.i3c_shared.specs.declared.faults.CallFault.{CallFault}
use Rattle.i3c_shared.specs.Replying.{IsUnhanded}
use Rattle.i3c_shared.specs.Taking.{Grows}
use Rattle.i3c_shared.specs.Values.{Log}
use Rattle.i3c_shared.proofs.Booked.{taken_session}

-- a refusal is another than the one that is asked for
abbrev isnt_open : Refusal → Bool
isnt_open Refusal.SessionOpen = false
isnt_open why = true

abbrev isnt_none : Refusal → Bool
isnt_none Refusal.NoSession = false
isnt_none why = true

-- each test that holds gives a refusal that passes the predicate
abbrev all_other : (Refusal → Bool) → Checks → Bool
all_other is [] = true
all_other is (check ∷ rest) = (is check.1 || not check.0) && all_other is rest

holds : (b : Bool) → (b || false) ≡ true → b ≡ true
holds true h = refl
holds false h = h

first_other : (is : Refusal → Bool) (cs : Checks) (why : Refusal) → all_other is cs ≡ true → first_refusal cs ≡ Some why → is why ≡ true
first_other is [] why all first = absurd (none-some why first)
first_other is (check ∷ rest) why all first = go check.0 all first (first_other is rest why)
  where
    go : (t : Bool) → ((is check.1 || not t) && all_other is rest) ≡ true → (if t then Some check.1 else first_refusal rest) ≡ Some why
        → (all_other is rest ≡ true → first_refusal rest ≡ Some why → is why ≡ true) → is why ≡ true
    go true h e later = let same : check.1 ≡ why = cc in ap is (sym same) ∙ holds (is check.1) (and_parts (is check.1 || false) (all_other is rest) h).0
    go false h e later = later (and_parts (is check.1 || true) (all_other is rest) h).1 e

-- the reply isn't a refusal
abbrev isnt_refused : Reply → Bool
isnt_refused (Reply.Refused why) = false
isnt_refused reply = true

unmet : (is : Refusal → Bool) (old : State) (event : Event) (reply : Reply) (new : State) (why : Refusal) → is why ≡ false → all_other is (checks old event) ≡ true
    → (Acts old event reply new → isnt_refused reply ≡ true) → Step old event reply new → reply ≡ Reply.Refused why → ⊥
unmet is old event reply new why this all acts h met = go (first_refusal (checks old event)) refl h
  where
    refusal : isnt_refused reply ≡ false
    refusal = ap isnt_refused met

    go : (o : Option Refusal) → first_refusal (checks old event) ≡ o → MatchOption o (IsShort old event reply new ⊎ Acts old event reply new) (λ w. (reply ≡ Reply.Refused w) × (new ≡ old)) → ⊥
    go None e k = elim k [ inl m ↦ both_ways (isnt_refused reply) refusal (ap isnt_refused m.1) | inr a ↦ both_ways (isnt_refused reply) refusal (acts a) ]
    go (Some w) e k =
        let same : w ≡ why = cc in
        both_ways (is why) this (ap is (sym same) ∙ first_other is (checks old event) w all e)

command_checks : (old : State) (m : Command) (policy : Fixed) (cuts : CutList) → old.in_session ≡ false → all_other isnt_open (checks old (event_of m policy cuts)) ≡ true
command_checks old command.Serve policy cuts closed = rw closed refl
command_checks old (command.Enec (Some a) kinds) policy cuts closed = rw closed refl
command_checks old (command.Enec None kinds) policy cuts closed = rw closed refl
command_checks old (command.Disec (Some a) kinds) policy cuts closed = rw closed refl
command_checks old (command.Disec None kinds) policy cuts closed = rw closed refl
command_checks old command.Reset policy cuts closed = rw closed refl
command_checks old command.SendList policy cuts closed = rw closed refl
command_checks old (command.ReadFrom a) policy cuts closed = rw closed refl
command_checks old (command.WriteTo a bytes) policy cuts closed = rw closed refl
command_checks old (command.SetStatic f to) policy cuts closed = rw closed refl
command_checks old (command.SetNew a to) policy cuts closed = rw closed refl
command_checks old (command.Get what a) policy cuts closed = rw closed refl
command_checks old (command.SetLength way most None) policy cuts closed = rw closed refl
command_checks old (command.SetLength way most (Some a)) policy cuts closed = rw closed refl

command_acts : (old : State) (m : Command) (policy : Fixed) (cuts : CutList) (reply : Reply) (new : State) → Acts old (event_of m policy cuts) reply new → isnt_refused reply ≡ true
command_acts old command.Serve policy cuts reply new h = ap isnt_refused h.1
command_acts old (command.Enec to kinds) policy cuts reply new h = ap isnt_refused h.1
command_acts old (command.Disec to kinds) policy cuts reply new h = ap isnt_refused h.1
command_acts old command.Reset policy cuts reply new h = ap isnt_refused h.1
command_acts old command.SendList policy cuts reply new h = ap isnt_refused h.1
command_acts old (command.ReadFrom a) policy cuts reply new h = ap isnt_refused h.1
command_acts old (command.WriteTo a bytes) policy cuts reply new h = ap isnt_refused h.1
command_acts old (command.SetStatic f to) policy cuts reply new h = ap isnt_refused h.1
command_acts old (command.SetNew a to) policy cuts reply new h = ap isnt_refused h.1
command_acts old (command.Get what a) policy cuts reply new h = ap isnt_refused h.1
command_acts old (command.SetLength way most to) policy cuts reply new h = ap isnt_refused h.1

-- a frame under the role finds no open session
pub command_unmet : (old : State) (m : Command) (policy : Fixed) (cuts : CutList) (reply : Reply) (new : State) → old.in_session ≡ false → Step old (event_of m policy cuts) reply new → reply ≡ Reply.Refused Refusal.SessionOpen → ⊥
command_unmet old m policy cuts reply new closed h =
    unmet isnt_open old (event_of m policy cuts) reply new Refusal.SessionOpen refl (command_checks old m policy cuts closed) (command_acts old m policy cuts reply new) h

pub open_unmet : (old : State) (cuts : CutList) (reply : Reply) (new : State) → old.in_session ≡ false → Step old (Event.OpenDaa cuts) reply new → reply ≡ Reply.Refused Refusal.SessionOpen → ⊥
open_unmet old cuts reply new closed h =
    unmet isnt_open old (Event.OpenDaa cuts) reply new Refusal.SessionOpen refl (rw closed refl) (λ a. ap isnt_refused a.1) h

pub hand_unmet : (old : State) (to : ℕ) (cuts : CutList) (reply : Reply) (new : State) → old.in_session ≡ false → Step old (Event.HandOver to cuts) reply new → reply ≡ Reply.Refused Refusal.SessionOpen → ⊥
hand_unmet old to cuts reply new closed h =
    unmet isnt_open old (Event.HandOver to cuts) reply new Refusal.SessionOpen refl (rw closed refl)
    (λ a. elim a [ inl granted ↦ ap isnt_refused granted.1 | inr declined ↦ ap isnt_refused declined.2 ]) h

-- a round or an end finds one
pub round_unmet : (old : State) (cuts : CutList) (reply : Reply) (new : State) → old.in_session ≡ true → Step old (Event.Round cuts) reply new → reply ≡ Reply.Refused Refusal.NoSession → ⊥
round_unmet old cuts reply new is_open h =
    unmet isnt_none old (Event.Round cuts) reply new Refusal.NoSession refl (rw is_open refl) (λ a. ap isnt_refused a.1) h

pub end_unmet : (old : State) (reply : Reply) (new : State) → old.in_session ≡ true → Step old Event.EndDaa reply new → reply ≡ Reply.Refused Refusal.NoSession → ⊥
end_unmet old reply new is_open h =
    unmet isnt_none old Event.EndDaa reply new Refusal.NoSession refl (rw is_open refl) (λ a. ap isnt_refused a.0) h

-- the same of what a call answers, whose event comes after what is taken up
pub command_never : (old new : Log) (m : Command) (policy : Fixed) (cuts : CutList) (reply : Reply) → old.state.in_session ≡ false → Grows old (event_of m policy cuts) reply new → reply ≡ Reply.Refused Refusal.SessionOpen → ⊥
command_never old new m policy cuts reply closed g = command_unmet g.mid.state m policy cuts reply new.state (taken_session old g.seen g.mid g.takes ∙ closed) g.makes.step

pub open_never : (old new : Log) (cuts : CutList) (reply : Reply) (why : Refusal) → old.state.in_session ≡ false → Grows old (Event.OpenDaa cuts) reply new → reply ≡ Reply.Refused why → CallFault.Refused why ≡ CallFault.Refused Refusal.SessionOpen → ⊥
open_never old new cuts reply why closed g is met =
    let same : why ≡ Refusal.SessionOpen = cc in
    open_unmet g.mid.state cuts reply new.state (taken_session old g.seen g.mid g.takes ∙ closed) g.makes.step (is ∙ ap Reply.Refused same)

pub hand_never : (old new : Log) (to : ℕ) (cuts : CutList) (reply : Reply) (why : HandOverFault) → old.state.in_session ≡ false → Grows old (Event.HandOver to cuts) reply new → IsUnhanded why reply → why ≡ HandOverFault.Refused Refusal.SessionOpen → ⊥
hand_never old new to cuts reply why closed g is met =
    hand_unmet g.mid.state to cuts reply new.state (taken_session old g.seen g.mid g.takes ∙ closed) g.makes.step (subst (λ (w : HandOverFault). IsUnhanded w reply) met is)

pub round_never : (old new : Log) (cuts : CutList) (reply : Reply) (why : Refusal) → old.state.in_session ≡ true → Grows old (Event.Round cuts) reply new → reply ≡ Reply.Refused why → CallFault.Refused why ≡ CallFault.Refused Refusal.NoSession → ⊥
round_never old new cuts reply why is_open g is met =
    let same : why ≡ Refusal.NoSession = cc in
    round_unmet g.mid.state cuts reply new.state (taken_session old g.seen g.mid g.takes ∙ is_open) g.makes.step (is ∙ ap Reply.Refused same)

pub end_never : (old new : Log) (reply : Reply) (why : Refusal) → old.state.in_session ≡ true → Grows old Event.EndDaa reply new → reply ≡ Reply.Refused why → CallFault.Refused why ≡ CallFault.Refused Refusal.NoSession → ⊥
end_never old new reply why is_open g is met =
    let same : why ≡ Refusal.NoSession = cc in
    end_unmet g.mid.state reply new.state (taken_session old g.seen g.mid g.takes ∙ is_open) g.makes.step (is ∙ ap Reply.Refused same)
