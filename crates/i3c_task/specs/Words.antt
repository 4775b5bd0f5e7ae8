-- What the words of the command line ask for.
use Rattle.std.specs.Prelude.{◌≡◌, codes}
use Rattle.i3c_task.specs.declared.task.Task.{Task}
use Rattle.i3c_task.specs.declared.task.Work.{Work}
use Rattle.i3c_task.specs.declared.words_fault.WordsFault.{WordsFault}

-- the script on standard input is run
abbrev pub RunsInput : Task → Type 0
RunsInput (Task.File work file) = (work ≡ Work.Run) × (file.now ≡ codes "-")
RunsInput (Task.Capture capturing work file) = ⊥
RunsInput (Task.Explore exploring file) = ⊥
RunsInput (Task.Meet meeting scene) = ⊥
RunsInput (Task.Stress stress) = ⊥
RunsInput Task.Version = ⊥

-- a fault of the parser is want of memory, or told in the parser's own words
abbrev pub IsOfWords : WordsFault → Type 0
IsOfWords WordsFault.Memory = Unit {0}
IsOfWords (WordsFault.Usage words) = Unit {0}
IsOfWords WordsFault.Legacy = ⊥
IsOfWords WordsFault.Part = ⊥
IsOfWords WordsFault.Order = ⊥
IsOfWords (WordsFault.Number name) = ⊥
