use Rattle.std.proofs.Common.{◌++◌, ◌∙◌, ap}
use Rattle.i3c_monitor.specs.Lint.{trace_linted}
use Rattle.i3c_monitor.specs.Linting.{reported, to_come}
use Rattle.i3c_traces.specs.Explained.{decoded_in, reasons_in}
use Rattle.i3c_traces.proofs.Reasoned.{reported_on}
use Rattle.i3c_traces.proofs.explaining.explain_linted.Goals as goal

pub loop-linter-preserved-in_ok-push_report : goal.loop-linter-preserved-in_ok-push_report
loop-linter-preserved-in_ok-push_report c =
    let all = c.args.text.now ++ reasons_in 0 (decoded_in (trace_linted c.args.legacies.0 c.args.symbols.now)) in
    let rest = to_come c.next.new.self in
    let next = c.push_report.new.text in
    let told = c.in_ok-report.ensures.told ∙ ap (λ report. reported report ++ rest) c.in-Some.is in
    ap (λ frame. next ++ reasons_in frame (decoded_in rest)) c.frame_behind-frame.ensures
    ∙ reported_on all c.loop-linter.text next c.loop-linter.frame (to_come c.loop-linter.linter) c.in-Some.report rest c.loop-linter.invariant told c.in_ok-push_report.ensures
