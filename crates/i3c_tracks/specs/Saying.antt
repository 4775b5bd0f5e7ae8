-- What a line of a file says.
use Rattle.std.specs.Prelude.{ℕ, List}
use Rattle.i3c_facts.specs.declared.marks.Mark.{Mark}
use Rattle.i3c_facts.specs.Forms.{IsMark}
use Rattle.i3c_lines.specs.Forms.{HasNoForm, IsCommand, IsSkipped}
use Rattle.i3c_tracks.specs.declared.file_line.FileLine.{FileLine}

-- a line of a file is empty, a command, a mark, or has no form
abbrev pub IsFileLine : List ℕ → FileLine → Type 0
IsFileLine line FileLine.Nothing = IsSkipped line
IsFileLine line (FileLine.Does command) = IsCommand line command
IsFileLine line (FileLine.Marks mark) = IsMark line mark
IsFileLine line FileLine.Formless = HasNoForm line × ((mark : Mark) → IsMark line mark → ⊥)
