-- What a run of the program came to, and its exit status.
use Rattle.std.specs.Prelude.{ℕ, Bool, true, false, Result, Ok, Err}
use Rattle.i3c_cli.specs.declared.fault.Fault.{Fault}
use Rattle.i3c_cli.specs.Endings.{tally_status}
use Rattle.i3c_program.specs.declared.session.Ending.{Ending as ProgramEnding}
use Rattle.i3c_streams.specs.declared.tally.Tally.{Tally}
use Rattle.i3c_tracks.specs.declared.answer.Answer.{Answer}
use Rattle.i3c_tracks.specs.declared.showing.Showing.{Showing}
use Rattle.i3cbus.specs.declared.ending.Ending.{Ending}

-- an exploration's own fault comes first; output that isn't taken to its end is lost
abbrev pub explore_ending : Result Answer Fault → Bool → Result Ending Fault
explore_ending (Err fault) flushed = Err fault
explore_ending (Ok answer) true = Ok (Ending.Explored answer)
explore_ending (Ok answer) false = Err Fault.Write

-- a quiet exploration prints numbers alone
abbrev pub showing_of : Bool → Showing
showing_of true = Showing.Numbers
showing_of false = Showing.Ends

-- the ending of a run of lines
abbrev pub lines_ending : Result Tally Fault → Result Ending Fault
lines_ending (Ok tally) = Ok (Ending.Ran tally)
lines_ending (Err fault) = Err fault

-- the ending of a program's orders
abbrev pub meeting_ending : Result ProgramEnding Fault → Result Ending Fault
meeting_ending (Ok ending) = Ok (Ending.Met ending)
meeting_ending (Err fault) = Err fault

-- 0 if every order was tried, 1 if not or if a line of the program wasn't done, 3 if an order breaks an expectation
abbrev pub meeting_status : ProgramEnding → ℕ
meeting_status ProgramEnding.Tried = 0
meeting_status ProgramEnding.Wanting = 1
meeting_status ProgramEnding.Unmet = 3

-- 0 if every order holds, 1 if the file or a limit is refused, 3 if an order breaks an expectation
abbrev pub answer_status : Answer → ℕ
answer_status Answer.Holds = 0
answer_status Answer.Refused = 1
answer_status Answer.Breaks = 3

-- the status of lines, or of an exploration; 2 if the script or the exploration wasn't done to its end
abbrev pub exit_status : Result Ending Fault → ℕ
exit_status (Ok (Ending.Ran tally)) = tally_status tally
exit_status (Ok (Ending.Explored answer)) = answer_status answer
exit_status (Ok (Ending.Met ending)) = meeting_status ending
exit_status (Err fault) = 2
