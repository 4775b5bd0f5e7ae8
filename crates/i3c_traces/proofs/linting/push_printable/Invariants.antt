use Rattle.std.proofs.Common.{◌≡◌, ◌++◌, length, map}
use Rattle.i3c_traces.specs.Linted.{printable}
use Rattle.i3c_traces.proofs.linting.push_printable.Given as goal

abbrev pub invariant-loop-rest : goal.invariant-loop-rest
invariant-loop-rest l = l.text ++ map printable l.rest ≡ l.initial.text ++ map printable l.fn.bytes

abbrev pub decreases-loop-rest : goal.decreases-loop-rest
decreases-loop-rest l = length l.rest
