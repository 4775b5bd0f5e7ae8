-- The lines that a linter prints.
use Rattle.std.specs.Prelude.{ℕ, ◌-◌, List, [], ◌∷◌, ◌++◌, codes, flat_map, Option, Some, None, slice_get}
use Rattle.i3c_frame.specs.declared.symbols.Symbol.{Symbol}
use Rattle.i3c_frame.specs.Texts.{text_of}
use Rattle.i3c_text.specs.Hex.{byte_text}
use Rattle.i3c_monitor.specs.declared.lint_fault.Breach.{Breach}
use Rattle.i3c_monitor.specs.declared.lint_fault.LintFault.{LintFault}
use Rattle.i3c_monitor.specs.declared.report.Report.{Report}
use Rattle.i3c_wave.specs.declared.captured.FrameMark.{FrameMark}
use Rattle.i3c_monitor.specs.Lines.{line_text, number_text, words_text}
use Rattle.i3c_monitor.specs.Lint.{LintLine}
use Rattle.i3c_monitor.specs.Lint.LintLine.{Shown, Faulty}
use Rattle.i3c_monitor.specs.Linting.{report_lines}

-- the text of a symbol, if there is one
abbrev pub symbol_text : Option Symbol → List ℕ
symbol_text None = []
symbol_text (Some symbol) = text_of symbol

-- a frame and a symbol of the trace
abbrev pub place_text : List Symbol → ℕ → ℕ → List ℕ
place_text trace frame symbol =
    number_text (codes "frame ") frame ++ (number_text (codes ": symbol ") symbol
    ++ (codes " '" ++ (symbol_text (slice_get trace (symbol - 1)) ++ codes "': ")))

-- an address, and what is said of it
abbrev pub address_text : ℕ → List ℕ → List ℕ
address_text a words = byte_text a ++ words

-- why a symbol is a fault
abbrev pub breach_text : Breach → List ℕ
breach_text (Breach.Nobody a) = words_text (codes "nobody was given ") a
breach_text (Breach.Silent a since) = address_text a (number_text (codes " gave no answer at symbol ") since)
breach_text (Breach.Twice a) = address_text a (codes " is another's")
breach_text Breach.Unanswered = codes "nobody answered"
breach_text Breach.Stray = codes "no Sr before it"
breach_text Breach.Surplus = codes "its command takes no more"
breach_text Breach.Ended = codes "T 0 before it"
breach_text Breach.Parity = codes "wrong parity"

-- the line of a fault
abbrev pub fault_line : List Symbol → LintFault → List ℕ
fault_line trace fault = place_text trace fault.frame fault.symbol ++ (breach_text fault.breach ++ 10 ∷ [])

-- the lines of several
abbrev pub faults_text : List Symbol → List LintFault → List ℕ
faults_text trace faults = flat_map (fault_line trace) faults

-- a line, of this trace, whose frames have these marks
abbrev pub lint_line_text : List Symbol → List FrameMark → LintLine → List ℕ
lint_line_text trace marks (Shown decoded) = line_text trace marks decoded
lint_line_text trace marks (Faulty fault) = fault_line trace fault

-- the lines that a linter prints
abbrev pub lint_text : List Symbol → List FrameMark → List LintLine → List ℕ
lint_text trace marks lines = flat_map (lint_line_text trace marks) lines

-- the lines that a report prints
abbrev pub report_text : List Symbol → List FrameMark → Report → List ℕ
report_text trace marks report = lint_text trace marks (report_lines report)
