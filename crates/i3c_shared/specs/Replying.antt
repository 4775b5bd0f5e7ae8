-- Which replies an event may get that wants no memory.
use Rattle.std.specs.Prelude.{◌≡◌, Bool, true, false}
use Rattle.i3c_shared.specs.declared.faults.HandOverFault.{HandOverFault}
use Rattle.i3c_base.specs.declared.answers.Answer.{Answer}
use Rattle.i3c_step.specs.declared.replies.Refusal.{Refusal}
use Rattle.i3c_step.specs.declared.replies.Reply.{Reply}

-- a reply that an attachment may have
abbrev pub is_attach_reply : Reply → Bool
is_attach_reply Reply.Attached = true
is_attach_reply (Reply.Refused Refusal.SlotTaken) = true
is_attach_reply _ = false

-- a reply that a drop-off may have
abbrev pub is_drop_reply : Reply → Bool
is_drop_reply Reply.Dropped = true
is_drop_reply (Reply.Refused Refusal.NoDevice) = true
is_drop_reply (Reply.Refused Refusal.ActiveStays) = true
is_drop_reply _ = false

-- a reply that a wish may have
abbrev pub is_ask_reply : Reply → Bool
is_ask_reply Reply.Asked = true
is_ask_reply (Reply.Refused why) = true
is_ask_reply _ = false

-- the opening of a session
abbrev pub is_open_reply : Reply → Bool
is_open_reply (Reply.Opened served) = true
is_open_reply (Reply.Refused why) = true
is_open_reply _ = false

-- a reply that a round may have
abbrev pub is_round_reply : Reply → Bool
is_round_reply (Reply.Round answer) = true
is_round_reply (Reply.Refused why) = true
is_round_reply _ = false

-- the end of a session
abbrev pub is_end_reply : Reply → Bool
is_end_reply Reply.Ended = true
is_end_reply (Reply.Refused why) = true
is_end_reply _ = false

-- a frame that nobody answered
abbrev pub is_no_answer : Answer → Bool
is_no_answer (Answer.NoAnswer a) = true
is_no_answer _ = false

-- a reply that a handover may have
abbrev pub is_hand_reply : Reply → Bool
is_hand_reply (Reply.Handed served) = true
is_hand_reply (Reply.Framed framed) = is_no_answer framed.answer
is_hand_reply (Reply.Refused why) = true
is_hand_reply _ = false

-- the bus gave the reply of this fault
abbrev pub IsUnhanded : HandOverFault → Reply → Type 0
IsUnhanded (HandOverFault.Refused why) reply = reply ≡ Reply.Refused why
IsUnhanded (HandOverFault.NoAnswer served a) reply = reply ≡ Reply.Framed (record { served = served; answer = Answer.NoAnswer a })
IsUnhanded HandOverFault.OutOfMemory reply = ⊥
