use Rattle.std.proofs.Common.{◌≡◌, ◌++◌, ◌∙◌, OnOk, ap, subst, sym}
use Rattle.i3c_monitor.specs.LintLines.{faults_text, report_text}
use Rattle.i3c_monitor.proofs.LintLaws.{faults_told}
use Rattle.i3c_monitor.proofs.report.Report.push.Goals as goal

pub returns-in-Faults : goal.returns-in-Faults
returns-in-Faults c =
    let trace = c.args.trace.now in
    let marks = c.args.marks.now in
    let same = ap (faults_text trace) c.deref.ensures.value ∙ sym (faults_told trace marks c.in-Faults.faults.items) ∙ ap (report_text trace marks) (sym c.in-Faults.is) in
    subst (λ lines. OnOk c.push_faults.result (c.push_faults.new.text ≡ c.args.text.now ++ lines)) same c.push_faults.ensures
