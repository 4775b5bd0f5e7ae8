-- What is printed of a file that is explored.
use Rattle.std.specs.Prelude.{ℕ, zero, suc, ◌-◌, Bool, true, false, List, [], ◌∷◌, ◌++◌, Option, Some, None, codes, drop, is_some, if◌then◌else◌, min, length, slice_get, take}
use Rattle.std.specs.Fmt.{decimal}
use Rattle.std.specs.Global.{Vec}
use Rattle.i3c_lines.specs.declared.names.Name.{Name}
use Rattle.i3c_lines.specs.Naming.{letters}
use Rattle.i3c_scene.specs.declared.risk.Risk.{Risk}
use Rattle.i3c_scene.specs.declared.ways.Ways.{Ways}
use Rattle.i3c_scene.specs.Trying.{ways_of}
use Rattle.i3c_tracks.specs.declared.course.Run.{Run}
use Rattle.i3c_tracks.specs.declared.refusal.Reason.{Reason}
use Rattle.i3c_tracks.specs.declared.refusal.Refusal.{Refusal}

-- why a file isn't explored
abbrev pub reason_token : Reason → List ℕ
reason_token Reason.BadLine = codes "BadLine"
reason_token Reason.NoBus = codes "NoBus"
reason_token Reason.NoBlock = codes "NoBlock"
reason_token Reason.BlockOpen = codes "BlockOpen"
reason_token Reason.NoTrack = codes "NoTrack"
reason_token Reason.NoLine = codes "NoLine"
reason_token Reason.ManyFrames = codes "ManyFrames"
reason_token Reason.Most = codes "Most"
reason_token Reason.NoClose = codes "NoClose"

-- the number of the line, if the refusal is of one
abbrev pub number_text : Option ℕ → List ℕ
number_text None = []
number_text (Some number) = codes " " ++ decimal number

abbrev pub refusal_line : Refusal → List ℕ
refusal_line refusal = codes "refused " ++ (reason_token refusal.reason ++ (number_text refusal.line ++ 10 ∷ []))

-- the line of a number, counted from 1, as the file has it
abbrev pub bytes_of : Option (Vec ℕ) → List ℕ
bytes_of None = []
bytes_of (Some line) = line.items

abbrev pub line_at : List (Vec ℕ) → ℕ → List ℕ
line_at lines number = bytes_of (slice_get lines (number - 1))

-- the lines of these numbers
abbrev pub lines_text : List (Vec ℕ) → List ℕ → List ℕ
lines_text lines [] = []
lines_text lines (number ∷ rest) = (line_at lines number ++ 10 ∷ []) ++ lines_text lines rest

-- a cut as a line of a script has it
abbrev pub cut_text : Name → ℕ → List ℕ
cut_text name bit = codes "cut " ++ (letters name ++ (codes " " ++ decimal bit))

-- the `cut` of a device in this way, and the text behind it; nothing in way 0
abbrev pub cut_before : Name → ℕ → List ℕ → List ℕ
cut_before name zero between = []
cut_before name (suc bit) between = cut_text name bit ++ between

-- the cuts in these ways of the devices at risk, each with the text behind it
abbrev pub cuts_before : Risk → Ways → List ℕ → List ℕ
cuts_before Risk.Nobody ways between = []
cuts_before (Risk.One name) ways between = cut_before name ways.one between
cuts_before (Risk.Two name other) ways between = cut_before name ways.one between ++ cut_before other ways.other between

-- the cuts of a line that runs
abbrev pub run_cuts : Run → List ℕ → List ℕ
run_cuts run between = cuts_before run.line.now.risk (ways_of run.line.now.risk run.way) between

-- a line that runs, with its cuts in front
abbrev pub run_text : List (Vec ℕ) → Run → List ℕ
run_text lines run = run_cuts run (10 ∷ []) ++ (line_at lines run.line.now.number ++ 10 ∷ [])

-- the same, if it has a command: a line without one is a place where expectations alone are tested
abbrev pub told_text : List (Vec ℕ) → Run → List ℕ
told_text lines run = if is_some run.line.now.command then run_text lines run else []

-- lines that run, one after another
abbrev pub runs_text : List (Vec ℕ) → List Run → List ℕ
runs_text lines [] = []
runs_text lines (run ∷ rest) = told_text lines run ++ runs_text lines rest

-- an expectation as an `expect`: `always` is as long
abbrev pub expectation_text : List ℕ → List ℕ
expectation_text line = codes "expect" ++ (drop (min 6 (length line)) line ++ 10 ∷ [])

-- a line, of a longer one as much as a script's line has room for
abbrev pub short_line : List ℕ → List ℕ
short_line line = take (min (length line) 256) line ++ 10 ∷ []

-- the comment that names the line that breaks
abbrev pub breaks_text : ℕ → List ℕ → List ℕ
breaks_text number line = codes "# line " ++ (decimal number ++ (codes " breaks: " ++ line))

-- a comment with this text
abbrev pub comment_text : List ℕ → List ℕ
comment_text line = codes "# " ++ (line ++ 10 ∷ [])

-- the comments before an order that breaks an expectation
abbrev pub heading_text : ℕ → List ℕ → List ℕ → List ℕ
heading_text number line found = short_line (breaks_text number line) ++ (comment_text found ++ comment_text (codes "run this script to see it"))

-- the text of a number of orders
abbrev pub orders_text : Option ℕ → List ℕ
orders_text None = codes "over 18446744073709551615"
orders_text (Some orders) = decimal orders

-- the orders that lead to an end, where they are told
abbrev pub of_orders : Bool → Option ℕ → List ℕ
of_orders true orders = codes " of " ++ (orders_text orders ++ codes " orders")
of_orders false orders = []

-- the first line of an end
abbrev pub head_text : ℕ → Option ℕ → Bool → List ℕ
head_text number orders counted = codes "end " ++ (decimal number ++ (of_orders counted orders ++ 10 ∷ []))

-- a line that runs, in one line with its cuts
abbrev pub short_run_text : List (Vec ℕ) → Run → List ℕ
short_run_text lines run = run_cuts run (codes " / ") ++ line_at lines run.line.now.number

-- the text before a line, which may be the first one
abbrev pub parting : Bool → List ℕ
parting true = codes " "
parting false = codes " / "

-- the lines of opened blocks among those that run
abbrev pub parted_text : List (Vec ℕ) → Bool → List Run → List ℕ
parted_text lines first [] = []
parted_text lines first (run ∷ rest) = (if run.opened then parting first ++ short_run_text lines run else []) ++ parted_text lines (if run.opened then false else first) rest

-- the same as a line
abbrev pub like_text : List (Vec ℕ) → List Run → List ℕ
like_text lines runs = codes "like" ++ (parted_text lines true runs ++ 10 ∷ [])

-- an order that breaks an expectation, as a script: the comments, the lines before the bus, those of the order, and what is expected
abbrev pub script_text : List (Vec ℕ) → List ℕ → List Run → ℕ → List ℕ → List ℕ
script_text lines before runs number found = heading_text number (line_at lines number) found ++ (lines_text lines before ++ (runs_text lines runs ++ expectation_text (line_at lines number)))
