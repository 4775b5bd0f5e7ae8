-- The raises of a device's present stay, in order.
use Rattle.std.specs.Prelude.{ℕ, Bool, true, false, ◌&&◌, ◌==◌, List, [], ◌∷◌, ◌++◌, length, drop, map, filter, Option, Some, None, is_some, if◌then◌else◌}
use Rattle.i3c_base.specs.declared.device.Waiting.{Waiting}
use Rattle.i3c_base.specs.declared.requests.Record.{Record}
use Rattle.i3c_base.specs.State.{State, device_at}
use Rattle.i3c_step.specs.declared.events.Event.{Event}
use Rattle.i3c_step.specs.declared.replies.Reply.{Reply}
use Rattle.i3c_step.specs.History.{History, Moment, reached}
use Rattle.i3c_step.specs.Records.{raise_of}

-- the number of an accepted raise
abbrev pub number_raised : Reply → Option ℕ
number_raised (Reply.Raised number) = Some number
number_raised _ = None

-- the raise of slot s that has this number, if the event is one
abbrev pub raised_as : Option ℕ → Event → ℕ → List Waiting
raised_as None event s = []
raised_as (Some number) (Event.Raise t byte) s = if t == s then record { number = number; byte = byte } ∷ [] else []
raised_as (Some number) _ s = []

-- the raise of slot s that was accepted at this moment, if one was
abbrev pub accepted_at : Moment → ℕ → List Waiting
accepted_at m s = raised_as (number_raised m.reply) m.event s

-- the raises of slot s that were recorded from one state to a later one
abbrev pub recorded_since : State → State → ℕ → List Waiting
recorded_since old new s = map raise_of (filter (λ (r : Record). r.slot == s) (drop (length old.records) new.records))

-- a device is in the slot before and after a step
abbrev pub stays : State → State → ℕ → Bool
stays old new s = is_some (device_at old s) && is_some (device_at new s)

-- the raises of slot s that were accepted in its device's present stay, the oldest first
abbrev pub accepted_in_stay : State → History → ℕ → List Waiting
accepted_in_stay start [] s = []
accepted_in_stay start (m ∷ earlier) s = if stays (reached start earlier) m.after s then accepted_in_stay start earlier s ++ accepted_at m s else []

-- the interrupts of slot s recorded in its device's present stay, the oldest first
abbrev pub recorded_in_stay : State → History → ℕ → List Waiting
recorded_in_stay start [] s = []
recorded_in_stay start (m ∷ earlier) s =
    if stays (reached start earlier) m.after s then recorded_in_stay start earlier s ++ recorded_since (reached start earlier) m.after s else []

-- the reply to an accepted attachment
abbrev pub is_attached : Reply → Bool
is_attached Reply.Attached = true
is_attached _ = false

-- the slot that an attachment is for
abbrev pub is_into : ℕ → Event → Bool
is_into s (Event.Attach t setup) = t == s
is_into s _ = false

-- the raises of slot s that were accepted since the last accepted attachment there, the oldest first
abbrev pub accepted_since_attachment : History → ℕ → List Waiting
accepted_since_attachment [] s = []
accepted_since_attachment (m ∷ earlier) s = if is_attached m.reply && is_into s m.event then [] else accepted_since_attachment earlier s ++ accepted_at m s
