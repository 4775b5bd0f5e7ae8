-- What a call's tap is told.
use Rattle.std.specs.Prelude.{◌≡◌, ◌⊎◌, Option, Some, None, Result, Ok, Err}
use Rattle.i3c_base.specs.declared.answers.Answer.{Answer}
use Rattle.i3c_base.specs.declared.answers.RoundReply.{RoundReply}
use Rattle.i3c_base.specs.declared.requests.Served.{Served}
use Rattle.i3c_base.specs.Cutting.{CutList}
use Rattle.i3c_frame.specs.declared.symbols.Symbol.{Symbol}
use Rattle.i3c_frame.specs.Taps.{Tells}
use Rattle.i3c_step.specs.declared.events.Command.{Command}
use Rattle.i3c_step.specs.declared.events.Event.{Event}
use Rattle.i3c_step.specs.declared.replies.Reply.{Reply}
use Rattle.i3c_step.specs.Commands.{event_of}
use Rattle.i3c_step.specs.Giving.{given_by}
use Rattle.i3c_bus.specs.Wire.{IsWire}
use Rattle.i3c_shared.specs.declared.faults.HandOverFault.{HandOverFault}
use Rattle.i3c_shared.specs.declared.faults.CallFault.{CallFault}
use Rattle.i3c_shared.specs.Taking.{Grows}
use Rattle.i3c_shared.specs.Values.{HeldValue, Log}

-- posts are taken up, and then comes this event, whose wire is all that the tap is told
abbrev pub TellsOf : {T : Type 0} → (T → Symbol → T → Type 0) → T → T → Log → Event → Reply → Log → Type 0
TellsOf gives tap told old event reply new = (g : Grows old event reply new) × Tells gives tap told (IsWire g.mid.state event reply new.state)

-- the same for a call that is this event with this reply; a call that is no event tells nothing
abbrev pub TellsIf : {T : Type 0} → (T → Symbol → T → Type 0) → T → T → Log → Event → Option Reply → Log → Type 0
TellsIf gives tap told old event (Some reply) new = TellsOf gives tap told old event reply new
TellsIf gives tap told old event None new = told ≡ tap

-- a frame under the role, by its answer
abbrev pub TellsFrame : {T : Type 0} → (T → Symbol → T → Type 0) → T → T → Log → Command → CutList → Reply → Log → Type 0
TellsFrame gives tap told old command cuts reply new =
    ((reply ≡ Reply.OutOfMemory) × (told ≡ tap)) ⊎ TellsOf gives tap told old (event_of command (given_by reply) cuts) reply new

-- the reply to an opening, by its answer: none where it is no event
abbrev pub opening_reply : Result (HeldValue × Served) (HeldValue × CallFault) → Option Reply
opening_reply (Ok opened) = Some (Reply.Opened opened.1)
opening_reply (Err (role, CallFault.Refused why)) = Some (Reply.Refused why)
opening_reply (Err (role, CallFault.OutOfMemory)) = None

-- the reply to a round, likewise
abbrev pub round_reply : Result RoundReply CallFault → Option Reply
round_reply (Ok answer) = Some (Reply.Round answer)
round_reply (Err (CallFault.Refused why)) = Some (Reply.Refused why)
round_reply (Err CallFault.OutOfMemory) = None

-- the reply to an end, likewise
abbrev pub ending_reply : Result HeldValue (HeldValue × CallFault) → Option Reply
ending_reply (Ok role) = Some Reply.Ended
ending_reply (Err (session, CallFault.Refused why)) = Some (Reply.Refused why)
ending_reply (Err (session, CallFault.OutOfMemory)) = None

-- the reply to a handover, likewise
abbrev pub handing_reply : Result Served (HeldValue × HandOverFault) → Option Reply
handing_reply (Ok served) = Some (Reply.Handed served)
handing_reply (Err (role, HandOverFault.Refused why)) = Some (Reply.Refused why)
handing_reply (Err (role, HandOverFault.NoAnswer served a)) = Some (Reply.Framed (record { served = served; answer = Answer.NoAnswer a }))
handing_reply (Err (role, HandOverFault.OutOfMemory)) = None
