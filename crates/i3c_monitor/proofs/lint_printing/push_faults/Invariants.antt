use Rattle.std.proofs.Common.{◌≡◌, ◌++◌, length}
use Rattle.i3c_monitor.specs.LintLines.{faults_text}
use Rattle.i3c_monitor.proofs.lint_printing.push_faults.Given as goal

abbrev pub invariant-loop-rest : goal.invariant-loop-rest
invariant-loop-rest l = l.text ++ faults_text l.trace l.rest ≡ l.initial.text ++ faults_text l.trace l.fn.faults

abbrev pub decreases-loop-rest : goal.decreases-loop-rest
decreases-loop-rest l = length l.rest
