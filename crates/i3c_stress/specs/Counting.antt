-- What a run says of its raises.
use Rattle.std.specs.Prelude.{ℕ, Bool, true, false, not, ◌&&◌, List, count_by}
use Rattle.i3c_step.specs.declared.events.Event.{Event}
use Rattle.i3c_step.specs.declared.replies.Reply.{Reply}
use Rattle.i3c_recorder.specs.declared.entry.Entry.{Entry}

-- the event is a raise
abbrev pub is_raise : Event → Bool
is_raise (Event.Raise s byte) = true
is_raise event = false

-- the reply accepts a raise
abbrev pub is_raised : Reply → Bool
is_raised (Reply.Raised number) = true
is_raised reply = false

-- the entry is an accepted raise
abbrev pub is_accepted : Entry → Bool
is_accepted e = is_raise e.event && is_raised e.reply

-- the raise is not accepted
abbrev pub is_refused : Entry → Bool
is_refused e = is_raise e.event && not (is_raised e.reply)

-- the number of accepted raises in a run
abbrev pub accepted_in : List Entry → ℕ
accepted_in run = count_by is_accepted run

-- the number of refused raises in a run
abbrev pub refused_in : List Entry → ℕ
refused_in run = count_by is_refused run
