use Rattle.std.proofs.Common.{◌≡◌, sum, take}
use Rattle.i3c_stress.proofs.report.total.Given as goal

abbrev pub invariant-loop-number : goal.invariant-loop-number
invariant-loop-number l = l.total ≡ sum (take l.number-index l.numbers)
