-- Runs as they are kept: a list of events with their replies.
use Rattle.std.specs.Prelude.{List, map}
use Rattle.i3c_base.specs.declared.device.Setup.{Setup}
use Rattle.i3c_base.specs.State.{Board, IsStart, State}
use Rattle.i3c_step.specs.declared.events.Event.{Event}
use Rattle.i3c_step.specs.declared.replies.Reply.{Reply}
use Rattle.i3c_step.specs.Runs.{IsLegalRun, IsRun}
use Rattle.i3c_recorder.specs.declared.entry.Entry.{Entry}

abbrev pub events_of : List Entry → List Event
events_of run = map (λ (e : Entry). e.event) run

abbrev pub replies_of : List Entry → List Reply
replies_of run = map (λ (e : Entry). e.reply) run

-- the run leads from the one state to the other
abbrev pub Leads : State → List Entry → State → Type 0
Leads start run new = IsRun start (events_of run) (replies_of run) new

-- a bus may start so
abbrev pub IsBegun : State → Type 0
IsBegun start = (main : Setup) × (board : Board) × IsStart main board start

-- the run is legal from some start, and leads to this state
abbrev pub IsLegalTo : List Entry → State → Type 0
IsLegalTo run new = (main : Setup) × (board : Board) × IsLegalRun main board (events_of run) (replies_of run) new
