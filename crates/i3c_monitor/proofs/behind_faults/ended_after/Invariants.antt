use Rattle.std.proofs.Common.{◌≡◌, ◌≤◌, ◌+◌, false, length}
use Rattle.i3c_monitor.specs.Lint.{ended_after}
use Rattle.i3c_monitor.proofs.behind_faults.ended_after.Given as goal

abbrev pub invariant-loop-rest : goal.invariant-loop-rest
invariant-loop-rest l = record {
  same : ended_after l.ended l.number l.rest ≡ ended_after false l.first l.fn.symbols;
  in_range : l.number + length l.rest ≤ 18446744073709551615;
}

abbrev pub decreases-loop-rest : goal.decreases-loop-rest
decreases-loop-rest l = length l.rest
