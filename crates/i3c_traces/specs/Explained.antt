-- Why a trace's lines are refused, as it is explained.
use Rattle.std.specs.Prelude.{◌≡◌, ◌⊎◌, ℕ, List, [], ◌∷◌, ◌++◌, codes, map, Option, Some, None, IfSome}
use Rattle.i3c_base.specs.declared.addresses.Addresses.{Addresses}
use Rattle.i3c_ccc.specs.declared.codes.CodeSet.{CodeSet}
use Rattle.i3c_deftgts.specs.declared.faults.ListFault.{ListFault}
use Rattle.i3c_frame.specs.declared.frames.Break.{Break}
use Rattle.i3c_frame.specs.declared.frames.Due.{Due}
use Rattle.i3c_frame.specs.declared.frames.Frames.{Frames}
use Rattle.i3c_frame.specs.declared.symbols.Symbol.{Symbol}
use Rattle.i3c_frame.specs.Frames.{IsRead}
use Rattle.i3c_frame.specs.Parts.{parts}
use Rattle.i3c_monitor.specs.declared.decoded.Decoded.{Decoded}
use Rattle.i3c_monitor.specs.declared.decoded.Fault.{Fault}
use Rattle.i3c_monitor.specs.declared.report.Report.{Report}
use Rattle.i3c_monitor.specs.Lines.{number_text}
use Rattle.i3c_monitor.specs.Lint.{LintLine, trace_linted}
use Rattle.i3c_monitor.specs.Lint.LintLine.{Shown, Faulty}
use Rattle.i3c_monitor.specs.Trace.{trace_told}
use Rattle.i3c_traces.specs.Traces.{ascii}

-- why the words of DEFTGTS are no list
abbrev pub list_reason : ListFault → List ℕ
list_reason (ListFault.Parity number) = number_text (codes "word ") number ++ codes " has a wrong T bit"
list_reason ListFault.Truncated = codes "the list is cut short"
list_reason ListFault.Count = codes "the count is not that of the entries"
list_reason (ListFault.Address number) = number_text (codes "entry ") number ++ codes " lacks its address"
list_reason ListFault.Twice = codes "two entries have one address"

-- why a frame is refused, and where that is described: the numbers are those of the refusal
abbrev pub reason_text : Fault → List ℕ
reason_text (Fault.Parity number) =
    number_text (codes "symbol ") number ++ codes " is no word with a right T (docs/FORMATS.md, What `trace` prints)"
reason_text (Fault.Truncated number) =
    number_text (codes "a word, an identity or an address byte is missing at symbol ") number ++ codes " (docs/FORMATS.md, What `trace` prints)"
reason_text (Fault.List fault) = list_reason fault ++ codes " (docs/FORMATS.md, The list of DEFTGTS)"

-- the line that explains a refusal in this frame
abbrev pub reason_line : ℕ → Fault → List ℕ
reason_line frame fault = number_text (codes "frame ") frame ++ (codes ": " ++ (reason_text fault ++ 10 ∷ []))

-- the line that explains a decoded part, if it is a refusal
abbrev pub reason_of : ℕ → Decoded → List ℕ
reason_of frame (Decoded.Refused fault) = reason_line frame fault
reason_of frame _ = []

-- the frame that began last
abbrev pub frame_after : ℕ → Decoded → ℕ
frame_after frame (Decoded.FrameStart number) = number
frame_after frame _ = frame

-- the same of a report, of which faults explain themselves
abbrev pub report_reason : ℕ → Report → List ℕ
report_reason frame (Report.Decoded decoded) = reason_of frame decoded
report_reason frame (Report.Faults faults) = []

-- the frame after a report
abbrev pub frame_behind : ℕ → Report → ℕ
frame_behind frame (Report.Decoded decoded) = frame_after frame decoded
frame_behind frame (Report.Faults faults) = frame

-- the lines that explain the refusals among decoded parts: each tells the frame that it is in
abbrev pub reasons_in : ℕ → List Decoded → List ℕ
reasons_in frame [] = []
reasons_in frame (decoded ∷ rest) = reason_of frame decoded ++ reasons_in (frame_after frame decoded) rest

-- the decoded parts among the lines of a trace that is told with its faults, which explain themselves
abbrev pub decoded_in : List LintLine → List Decoded
decoded_in [] = []
decoded_in (Shown decoded ∷ rest) = decoded ∷ decoded_in rest
decoded_in (Faulty fault ∷ rest) = decoded_in rest

-- why a symbol is no part of a trace at its place
abbrev pub due_reason : Due → List ℕ
due_reason Due.Symbol = codes "this is no symbol"
due_reason Due.Header = codes "a header is due behind S and Sr"
due_reason Due.Start = codes "S is due outside a frame"
due_reason Due.Stop = codes "P is due before the next S and at the end"

-- the same behind its place, to the line's end
abbrev pub due_line : Due → List ℕ
due_line due = codes ": " ++ (due_reason due ++ (codes " (docs/FORMATS.md, Symbols and traces)" ++ 10 ∷ []))

-- the line that explains where a text stops being a trace
abbrev pub break_reason : Break → List ℕ
break_reason broken = number_text (codes "frame ") broken.frame ++ (number_text (codes ": symbol ") broken.symbol ++ due_line broken.due)

-- the lines that explain a text: where it stops being a trace, or the refusals of one that is told
abbrev pub told_reasons : CodeSet → List Symbol → Option Break → List ℕ
told_reasons codes symbols None = reasons_in 0 (trace_told codes symbols)
told_reasons codes symbols (Some broken) = break_reason broken

-- the same, or with the addresses of legacy targets the refusals of its whole frames
abbrev pub frames_reasons : CodeSet → Option Addresses → Frames → List ℕ
frames_reasons codes None frames = told_reasons codes frames.symbols.items frames.broken
frames_reasons codes (Some legacies) frames = reasons_in 0 (decoded_in (trace_linted legacies.0 frames.symbols.items))

-- notes grow by reasons, or for want of memory stay as they were
abbrev pub GrowsOrNot : List ℕ → List ℕ → List ℕ → Type 0
GrowsOrNot reasons old new = (new ≡ old) ⊎ (new ≡ old ++ reasons)

-- the same of the reasons of a text
abbrev pub AreNoted : CodeSet → Option Addresses → List ℕ → List ℕ → List ℕ → Type 0
AreNoted codes legacies text old new = (new ≡ old) ⊎ ((frames : Frames) × IsRead (parts text) frames × GrowsOrNot (frames_reasons codes legacies frames) old new)

-- the same of the text that known bytes are
abbrev pub IsExplained : CodeSet → Option Addresses → Option (List ℕ) → List ℕ → List ℕ → Type 0
IsExplained codes legacies known old new = (new ≡ old) ⊎ ((text : List ℕ) × IfSome known (λ bytes. text ≡ map ascii bytes) × AreNoted codes legacies text old new)
