-- Steps that leave the active controller and the session as they were.
use Rattle.std.proofs.Common.{◌≡◌, Bool, true, false, refl, sym, ap, ◌∙◌}
use Rattle.std.proofs.lemmas.Bool.{false≢true}
use Rattle.i3c_base.specs.declared.requests.Fixed.{Fixed}
use Rattle.i3c_base.specs.Cutting.{CutList}
use Rattle.i3c_base.specs.State.{State}
use Rattle.i3c_step.specs.declared.events.Command.{Command}
use Rattle.i3c_step.specs.declared.events.Command.TheVariants as command
use Rattle.i3c_step.specs.declared.events.Event.{Event}
use Rattle.i3c_step.specs.declared.events.Event.TheVariants.{Attach, DropOff, Raise, AskJoin, AskRole, Serve, Enec, Disec, Reset, SendList, ReadFrom, WriteTo, SetStatic, SetNew, Get, SetLength, HandOver, OpenDaa, Round, EndDaa}
use Rattle.i3c_step.specs.declared.replies.Reply.{Reply}
use Rattle.i3c_step.specs.Commands.{event_of}
use Rattle.i3c_step.specs.Slots.{is_handed, session_after}
use Rattle.i3c_step.specs.Step.{Acts, Step}
use Rattle.i3c_step.proofs.SlotLaws.{slots_kept}
use Rattle.i3c_step.proofs.Slots.{Stands, Stands-same}
use Rattle.i3c_step.proofs.Steps.{IsIdle, refused, short, step_cases}
use Rattle.i3c_shared.specs.Books.{is_frame}

-- the reply neither moves the role nor opens or ends a session
abbrev pub IsSteady : Reply → Bool → Type 0
IsSteady reply was = (is_handed reply ≡ false) × (session_after reply was ≡ was)

pub same_reply : (reply other : Reply) (was : Bool) → reply ≡ other → IsSteady other was → IsSteady reply was
same_reply reply other was is h = (ap is_handed is ∙ h.0, ap (λ r. session_after r was) is ∙ h.1)

-- what a device does by itself
local_acts : (old : State) (event : Event) (reply : Reply) (new : State) → is_frame event ≡ false → Acts old event reply new → Stands old new
local_acts old (Attach s setup) reply new n h = (ap (λ (st : State). st.active) h.1, ap (λ (st : State). st.in_session) h.1)
local_acts old (DropOff s) reply new n h = (ap (λ (st : State). st.active) h.1, ap (λ (st : State). st.in_session) h.1)
local_acts old (Raise s byte) reply new n h = (ap (λ (st : State). st.active) h.1, ap (λ (st : State). st.in_session) h.1)
local_acts old (AskJoin s) reply new n h = (ap (λ (st : State). st.active) h.1, ap (λ (st : State). st.in_session) h.1)
local_acts old (AskRole s) reply new n h = (ap (λ (st : State). st.active) h.1, ap (λ (st : State). st.in_session) h.1)
local_acts old (Serve policy cuts) reply new n h = absurd (false≢true (sym n))
local_acts old (Enec to kinds policy cuts) reply new n h = absurd (false≢true (sym n))
local_acts old (Disec to kinds policy cuts) reply new n h = absurd (false≢true (sym n))
local_acts old (Reset policy cuts) reply new n h = absurd (false≢true (sym n))
local_acts old (SendList policy cuts) reply new n h = absurd (false≢true (sym n))
local_acts old (ReadFrom a policy cuts) reply new n h = absurd (false≢true (sym n))
local_acts old (WriteTo a bytes policy cuts) reply new n h = absurd (false≢true (sym n))
local_acts old (SetStatic f to policy cuts) reply new n h = absurd (false≢true (sym n))
local_acts old (SetNew a to policy cuts) reply new n h = absurd (false≢true (sym n))
local_acts old (Get what a policy cuts) reply new n h = absurd (false≢true (sym n))
local_acts old (SetLength way most to policy cuts) reply new n h = absurd (false≢true (sym n))
local_acts old (HandOver to cuts) reply new n h = absurd (false≢true (sym n))
local_acts old (OpenDaa cuts) reply new n h = absurd (false≢true (sym n))
local_acts old (Round cuts) reply new n h = absurd (false≢true (sym n))
local_acts old EndDaa reply new n h = absurd (false≢true (sym n))

pub local_stands : (old : State) (event : Event) (reply : Reply) (new : State) → is_frame event ≡ false → Step old event reply new → Stands old new
local_stands old event reply new n h = step_cases old event reply new h (λ idle e. Stands-same old new old e (refl, refl)) (λ free acts. local_acts old event reply new n acts)

idle_steady : (reply : Reply) (was : Bool) → IsIdle reply → IsSteady reply was
idle_steady reply was (refused why r) = same_reply reply (Reply.Refused why) was r (refl, refl)
idle_steady reply was (short r) = same_reply reply Reply.OutOfMemory was r (refl, refl)

command_acts : (old : State) (m : Command) (policy : Fixed) (cuts : CutList) (reply : Reply) (new : State) → Acts old (event_of m policy cuts) reply new → IsSteady reply old.in_session
command_acts old command.Serve policy cuts reply new h = same_reply reply _ old.in_session h.1 (refl, refl)
command_acts old (command.Enec to kinds) policy cuts reply new h = same_reply reply _ old.in_session h.1 (refl, refl)
command_acts old (command.Disec to kinds) policy cuts reply new h = same_reply reply _ old.in_session h.1 (refl, refl)
command_acts old command.Reset policy cuts reply new h = same_reply reply _ old.in_session h.1 (refl, refl)
command_acts old command.SendList policy cuts reply new h = same_reply reply _ old.in_session h.1 (refl, refl)
command_acts old (command.ReadFrom a) policy cuts reply new h = same_reply reply _ old.in_session h.1 (refl, refl)
command_acts old (command.WriteTo a bytes) policy cuts reply new h = same_reply reply _ old.in_session h.1 (refl, refl)
command_acts old (command.SetStatic f to) policy cuts reply new h = same_reply reply _ old.in_session h.1 (refl, refl)
command_acts old (command.SetNew a to) policy cuts reply new h = same_reply reply _ old.in_session h.1 (refl, refl)
command_acts old (command.Get what a) policy cuts reply new h = same_reply reply _ old.in_session h.1 (refl, refl)
command_acts old (command.SetLength way most to) policy cuts reply new h = same_reply reply _ old.in_session h.1 (refl, refl)

-- a frame under the role
pub command_steady : (old : State) (m : Command) (policy : Fixed) (cuts : CutList) (reply : Reply) (new : State) → Step old (event_of m policy cuts) reply new → IsSteady reply old.in_session
command_steady old m policy cuts reply new h =
    step_cases old (event_of m policy cuts) reply new h (λ idle e. idle_steady reply old.in_session idle) (λ free acts. command_acts old m policy cuts reply new acts)

-- a round
pub round_steady : (old : State) (cuts : CutList) (reply : Reply) (new : State) → Step old (Event.Round cuts) reply new → IsSteady reply old.in_session
round_steady old cuts reply new h =
    step_cases old (Event.Round cuts) reply new h (λ idle e. idle_steady reply old.in_session idle) (λ free acts. same_reply reply _ old.in_session acts.1 (refl, refl))

pub commands_are_frames : (m : Command) (policy : Fixed) (cuts : CutList) → is_frame (event_of m policy cuts) ≡ true
commands_are_frames command.Serve policy cuts = refl
commands_are_frames (command.Enec to kinds) policy cuts = refl
commands_are_frames (command.Disec to kinds) policy cuts = refl
commands_are_frames command.Reset policy cuts = refl
commands_are_frames command.SendList policy cuts = refl
commands_are_frames (command.ReadFrom a) policy cuts = refl
commands_are_frames (command.WriteTo a bytes) policy cuts = refl
commands_are_frames (command.SetStatic f to) policy cuts = refl
commands_are_frames (command.SetNew a to) policy cuts = refl
commands_are_frames (command.Get what a) policy cuts = refl
commands_are_frames (command.SetLength way most to) policy cuts = refl
