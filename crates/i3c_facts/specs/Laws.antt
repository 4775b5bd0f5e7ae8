-- What holds of every line.
use Rattle.std.specs.Prelude.{◌≡◌, ℕ, ◌≤◌, ◌↔◌, List, Some, length, true}
use Rattle.i3c_base.specs.declared.requests.Request.{Request}
use Rattle.i3c_base.specs.Serve.{IsFirst, drives}
use Rattle.i3c_base.specs.State.{State}
use Rattle.i3c_facts.specs.declared.marks.Mark.{Mark}
use Rattle.i3c_facts.specs.Forms.{IsMark}
use Rattle.i3c_facts.specs.Holding.{is_asking}
use Rattle.i3c_facts.specs.Printing.{MarkHasLine, mark_text}
use Rattle.i3c_lines.specs.declared.command.Command.{Command}
use Rattle.i3c_lines.specs.Forms.{IsCommand, IsSkipped}

-- a line that is a mark asks for no command, and isn't passed over
abbrev pub MarksAreNoCommands : Type 0
MarksAreNoCommands = (line : List ℕ) (mark : Mark) → IsMark line mark → ((command : Command) → IsCommand line command → ⊥) × (IsSkipped line → ⊥)

-- a line is one mark at most
abbrev pub LinesAreOfOneMark : Type 0
LinesAreOfOneMark = (line : List ℕ) (one other : Mark) → IsMark line one → IsMark line other → one ≡ other

-- a mark that a line can say is read from its printed line, unless that is too long
abbrev pub PrintedMarksAreRead : Type 0
PrintedMarksAreRead = (mark : Mark) → MarkHasLine mark → length (mark_text mark) ≤ 256 → IsMark (mark_text mark) mark

-- the devices that ask are those that drive the first request of the next frame
abbrev pub AskersDriveTheFirst : Type 0
AskersDriveTheFirst = (st : State) (slot : ℕ) → (is_asking st (Some slot) ≡ true) ↔ ((r : Request) × IsFirst st r × (drives st r slot ≡ true))
