-- The lines that a trace comes to with its faults.
use Rattle.std.specs.Prelude.{◌≡◌, ℕ, ◌+◌, nat_lt, ◌||◌, List, [], ◌∷◌, ◌++◌, codes, length, map, min, take, option_copied, Option, Some, None, Result, if◌then◌else◌}
use Rattle.i3c_base.specs.declared.addresses.Addresses.{Addresses}
use Rattle.i3c_ccc.specs.declared.codes.CodeSet.{CodeSet}
use Rattle.i3c_frame.specs.declared.frames.Break.{Break}
use Rattle.i3c_frame.specs.declared.frames.Due.{Due}
use Rattle.i3c_frame.specs.declared.frames.Frames.{Frames}
use Rattle.i3c_frame.specs.Frames.{IsRead}
use Rattle.i3c_frame.specs.Parts.{parts}
use Rattle.i3c_monitor.specs.declared.report.Report.{Report}
use Rattle.i3c_wave.specs.declared.captured.FrameMark.{FrameMark}
use Rattle.i3c_monitor.specs.Lines.{number_text}
use Rattle.i3c_monitor.specs.Lint.{LintLine, trace_linted}
use Rattle.i3c_monitor.specs.Lint.LintLine.{Shown, Faulty}
use Rattle.i3c_monitor.specs.LintLines.{lint_text}
use Rattle.i3c_streams.specs.declared.faults.ScriptFault.{ScriptFault}
use Rattle.i3c_streams.specs.declared.tally.Tally.{Tally}
use Rattle.i3c_traces.specs.Traces.{CameTo, Goes, IsTold, refusals_in}

-- the symbol expected at the point where a text stops being a trace
abbrev pub due_text : Due → List ℕ
due_text Due.Symbol = codes ": no symbol"
due_text Due.Header = codes ": a header is due"
due_text Due.Start = codes ": S is due"
due_text Due.Stop = codes ": P is due"

-- a byte, or a question mark for one that isn't printed
abbrev pub printable : ℕ → ℕ
printable byte = if nat_lt byte 32 || nat_lt 126 byte then 63 else byte

-- what follows the bytes that are told of a longer text
abbrev pub more_text : ℕ → List ℕ
more_text count = if nat_lt 16 count then codes ".." else []

-- a text in quotes, or its first bytes
abbrev pub part_text : List ℕ → List ℕ
part_text part = codes " '" ++ (map printable (take 16 part) ++ (more_text (length part) ++ codes "'"))

-- a text in the place of a symbol, if there is one
abbrev pub parted_text : Option (List ℕ) → List ℕ
parted_text None = []
parted_text (Some part) = part_text part

-- the text in the place where a text stops being a trace, and the symbol expected there
abbrev pub cause_text : Break → List ℕ
cause_text broken = parted_text (option_copied broken.part) ++ (due_text broken.due ++ 10 ∷ [])

-- the line that tells where a text stops being a trace
abbrev pub broken_text : Break → List ℕ
broken_text broken = number_text (codes "frame ") broken.frame ++ (number_text (codes ": symbol ") broken.symbol ++ cause_text broken)

-- the same, if a text does
abbrev pub break_text : Option Break → List ℕ
break_text None = []
break_text (Some broken) = broken_text broken

-- how many faults that is
abbrev pub breaks : Option Break → ℕ
breaks None = 0
breaks (Some broken) = 1

-- how many faults one line is
abbrev pub line_faults : List FrameMark → LintLine → ℕ
line_faults marks (Shown decoded) = refusals_in marks decoded
line_faults marks (Faulty fault) = 1

-- the number of faults among these lines
abbrev pub all_faults : List FrameMark → List LintLine → ℕ
all_faults marks [] = 0
all_faults marks (line ∷ rest) = line_faults marks line + all_faults marks rest

-- how many a report tells
abbrev pub faults_in : List FrameMark → Report → ℕ
faults_in marks (Report.Decoded decoded) = refusals_in marks decoded
faults_in marks (Report.Faults faults) = length faults.items

-- the lines of frames that have these marks, and of the text behind them
abbrev pub frames_text : ℕ → Frames → List FrameMark → List ℕ
frames_text legacies frames marks = lint_text frames.symbols.items marks (trace_linted legacies frames.symbols.items) ++ break_text frames.broken

-- how many faults these are
abbrev pub frames_faults : ℕ → Frames → List FrameMark → ℕ
frames_faults legacies frames marks = all_faults marks (trace_linted legacies frames.symbols.items) + breaks frames.broken

-- frames that have these marks give these lines, and this number of faults
abbrev pub AreLinted : ℕ → Frames → List FrameMark → List ℕ → ℕ → Type 0
AreLinted legacies frames marks lines faults =
    (lines ≡ frames_text legacies frames marks) × (faults ≡ min (frames_faults legacies frames marks) 18446744073709551615)

-- the text gives these lines, and this number of faults
abbrev pub IsLinted : ℕ → List ℕ → List ℕ → ℕ → Type 0
IsLinted legacies text lines faults = (frames : Frames) × IsRead (parts text) frames × AreLinted legacies frames [] lines faults

-- what goes out of known bytes
abbrev pub GoesOutLinted : ℕ → Option (List ℕ) → Option (List ℕ) → Option (List ℕ) → Result Tally ScriptFault → Type 0
GoesOutLinted legacies known old new result = Goes (CameTo (IsLinted legacies) known) old new result

-- the lines with faults, given the addresses of legacy targets, or without, where these codes are known by name
abbrev pub IsToldAs : CodeSet → Option Addresses → List ℕ → List ℕ → ℕ → Type 0
IsToldAs codes None text lines refused = IsTold codes text lines refused
IsToldAs codes (Some legacies) text lines refused = IsLinted legacies.0 text lines refused

-- what goes out of known bytes
abbrev pub GoesOutAs : CodeSet → Option Addresses → Option (List ℕ) → Option (List ℕ) → Option (List ℕ) → Result Tally ScriptFault → Type 0
GoesOutAs codes legacies known old new result = Goes (CameTo (IsToldAs codes legacies) known) old new result
