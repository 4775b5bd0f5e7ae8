-- The reasons of the refusals of a trace, one after another.
use Rattle.std.proofs.Common.{◌≡◌, ◌∙◌, ℕ, List, [], ◌∷◌, ◌++◌, map, ap, append_assoc, refl, sym}
use Rattle.i3c_monitor.specs.declared.lint_fault.LintFault.{LintFault}
use Rattle.i3c_monitor.specs.declared.report.Report.{Report}
use Rattle.i3c_monitor.specs.Lint.{LintLine}
use Rattle.i3c_monitor.specs.Lint.LintLine.{Faulty}
use Rattle.i3c_monitor.specs.Linting.{report_lines}
use Rattle.i3c_traces.specs.Explained.{decoded_in, frame_behind, reasons_in, report_reason}

faulty_none : (faults : List LintFault) (rest : List LintLine) → decoded_in (map Faulty faults ++ rest) ≡ decoded_in rest
faulty_none [] rest = refl
faulty_none (fault ∷ faults) rest = faulty_none faults rest

reported_reasons : (frame : ℕ) (report : Report) (rest : List LintLine)
    → reasons_in frame (decoded_in (report_lines report ++ rest)) ≡ report_reason frame report ++ reasons_in (frame_behind frame report) (decoded_in rest)
reported_reasons frame (Report.Decoded decoded) rest = refl
reported_reasons frame (Report.Faults faults) rest = ap (reasons_in frame) (faulty_none faults.items rest)

-- a report is explained behind the others
pub reported_on : (all text next : List ℕ) (frame : ℕ) (come : List LintLine) (report : Report) (rest : List LintLine)
    → text ++ reasons_in frame (decoded_in come) ≡ all → come ≡ report_lines report ++ rest → next ≡ text ++ report_reason frame report
    → next ++ reasons_in (frame_behind frame report) (decoded_in rest) ≡ all
reported_on all text next frame come report rest before is grows =
    ap (λ next. next ++ reasons_in (frame_behind frame report) (decoded_in rest)) grows
    ∙ append_assoc text (report_reason frame report) (reasons_in (frame_behind frame report) (decoded_in rest))
    ∙ ap (λ more. text ++ more) (sym (reported_reasons frame report rest))
    ∙ ap (λ come. text ++ reasons_in frame (decoded_in come)) (sym is) ∙ before
