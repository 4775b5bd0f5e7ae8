-- What a linter is still to tell.
use Rattle.std.specs.Prelude.{ℕ, List, [], ◌∷◌, ◌++◌, length, map, Option, Some, None}
use Rattle.std.specs.Option.{option_to_list}
use Rattle.i3c_monitor.specs.declared.header.Header.{Header}
use Rattle.i3c_monitor.specs.declared.header.Told.{Told}
use Rattle.i3c_monitor.specs.declared.linter.Linter.{Linter}
use Rattle.i3c_monitor.specs.declared.report.Report.{Report}
use Rattle.i3c_monitor.specs.AddressStatuses.{learned_of}
use Rattle.i3c_monitor.specs.Lint.{LintLine, header_faults, linted, mode_at, told_at}
use Rattle.i3c_monitor.specs.Lint.LintLine.{Shown, Faulty}
use Rattle.i3c_monitor.specs.Trace.{behind, count_behind}

-- the lines that a report is
abbrev pub report_lines : Report → List LintLine
report_lines (Report.Decoded decoded) = Shown decoded ∷ []
report_lines (Report.Faults faults) = map Faulty faults.items

-- the lines of an optional report
abbrev pub reported : Option Report → List LintLine
reported None = []
reported (Some report) = report_lines report

-- what a linter is still to tell
abbrev pub to_come : Linter → List LintLine
to_come linter =
    linted linter.legacies.0 linter.mode linter.frames linter.before linter.known linter.faults.items 0 linter.rest.now

-- how many symbols it has not looked at
abbrev pub left : Linter → ℕ
left linter = length linter.rest.now

-- the same of one that has just taken this header
abbrev pub header_to_come : Linter → Header → List LintLine
header_to_come linter header =
    let rest = linter.rest.now in
    let told : Told = told_at linter.legacies.0 linter.mode header (behind rest) linter.before in
    map Shown (option_to_list told.decoded)
    ++ linted linter.legacies.0 told.mode linter.frames linter.before (learned_of linter.before (behind rest) told.decoded linter.known)
    (linter.faults.items ++ header_faults linter.legacies.0 linter.known (mode_at linter.legacies.0 linter.mode header (behind rest)) linter.frames linter.before header (behind rest) told.decoded)
    (count_behind rest) rest
