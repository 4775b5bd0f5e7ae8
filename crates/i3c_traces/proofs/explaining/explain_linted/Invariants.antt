use Rattle.std.proofs.Common.{◌≡◌, ◌++◌}
use Rattle.i3c_monitor.specs.Lint.{trace_linted}
use Rattle.i3c_monitor.specs.Linting.{left, to_come}
use Rattle.i3c_traces.specs.Explained.{decoded_in, reasons_in}
use Rattle.i3c_traces.proofs.explaining.explain_linted.Given as goal

-- the reasons so far, and those to come
abbrev pub invariant-loop-linter : goal.invariant-loop-linter
invariant-loop-linter l =
    l.text ++ reasons_in l.frame (decoded_in (to_come l.linter)) ≡ l.initial.text ++ reasons_in 0 (decoded_in (trace_linted l.fn.legacies.0 l.fn.symbols))

abbrev pub decreases-loop-linter : goal.decreases-loop-linter
decreases-loop-linter l = left l.linter
