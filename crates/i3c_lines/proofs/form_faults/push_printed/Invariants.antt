use Rattle.std.proofs.Common.{◌≡◌, ◌++◌, length, map}
use Rattle.i3c_lines.specs.Faults.{printed}
use Rattle.i3c_lines.proofs.form_faults.push_printed.Given as goal

abbrev pub invariant-loop-rest : goal.invariant-loop-rest
invariant-loop-rest l = l.text ++ map printed l.rest ≡ l.initial.text ++ map printed l.fn.bytes

abbrev pub decreases-loop-rest : goal.decreases-loop-rest
decreases-loop-rest l = length l.rest
