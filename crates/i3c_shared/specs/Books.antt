-- What the three ledgers of a bus say: which slot is active, whether a session is open, and how many frames the run has.
use Rattle.std.specs.Prelude.{◌≡◌, ℕ, ◌+◌, Bool, true, false, List, count_by, if◌then◌else◌}
use Rattle.i3c_step.specs.declared.events.Event.{Event}
use Rattle.i3c_recorder.specs.declared.entry.Entry.{Entry}
use Rattle.i3c_shared.specs.declared.faults.HandOverFault.{HandOverFault}
use Rattle.i3c_shared.specs.declared.faults.CallFault.{CallFault}
use Rattle.i3c_shared.specs.Values.{BooksValue, HeldValue, Log}

-- the event is one that the active controller makes under its role or session: a frame, a round, or the session's end
abbrev pub is_frame : Event → Bool
is_frame (Event.Attach s setup) = false
is_frame (Event.DropOff s) = false
is_frame (Event.Raise s byte) = false
is_frame (Event.AskJoin s) = false
is_frame (Event.AskRole s) = false
is_frame event = true

-- the number of frame events in a run, refused ones too
abbrev pub frames_in : List Entry → ℕ
frames_in run = count_by (λ (e : Entry). is_frame e.event) run

-- 1 while a session is open
abbrev pub sessions_in : Bool → ℕ
sessions_in is_open = if is_open then 1 else 0

-- the books before the bus starts
abbrev pub no_books : BooksValue
no_books = record { active = 0; session = 0; frames = 0 }

-- one frame event more is booked
abbrev pub book_frame : BooksValue → BooksValue
book_frame books = record books { frames = books.frames + 1 }

-- what is booked of a bus with its run
abbrev pub books_of : Log → BooksValue
books_of log = record { active = log.state.active; session = sessions_in log.state.in_session; frames = frames_in log.run }

-- a role or session that counts one frame event more
abbrev pub counted : HeldValue → HeldValue
counted held = record held { frames = held.frames + 1 }

-- the role in hand, or the session where one is open: it is the active controller's, and counts the frames of the run
pub record IsHeld (log : Log) (is_open : Bool) (held : HeldValue) : Type 0 where
  pub holder : held.holder ≡ log.state.active
  pub session : log.state.in_session ≡ is_open
  pub frames : held.frames ≡ frames_in log.run

-- the amounts of a role's shares, and with 1 those of a session
abbrev pub shares_of : ℕ → HeldValue → BooksValue
shares_of session held = record { active = held.holder; session = session; frames = held.frames }

-- the role that a refused opening gives back: it counts that event, unless memory was short
abbrev pub unopened : CallFault → HeldValue → HeldValue
unopened CallFault.OutOfMemory role = role
unopened (CallFault.Refused why) role = counted role

-- the session after a refused round or end, likewise
abbrev pub unended : CallFault → HeldValue → HeldValue
unended CallFault.OutOfMemory session = session
unended (CallFault.Refused why) session = counted session

-- the role that a refused handover gives back, likewise
abbrev pub unhanded : HandOverFault → HeldValue → HeldValue
unhanded HandOverFault.OutOfMemory role = role
unhanded (HandOverFault.Refused why) role = counted role
unhanded (HandOverFault.NoAnswer served a) role = counted role
