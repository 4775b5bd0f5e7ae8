use Rattle.std.proofs.Common.{◌≡◌, ◌++◌, length}
use Rattle.i3c_monitor.specs.Lint.{all_found}
use Rattle.i3c_monitor.proofs.checks.push_found.Given as goal

abbrev pub invariant-loop-rest : goal.invariant-loop-rest
invariant-loop-rest l = l.faults.items ++ all_found l.rest ≡ l.initial.faults.items ++ all_found l.fn.found

abbrev pub decreases-loop-rest : goal.decreases-loop-rest
decreases-loop-rest l = length l.rest
