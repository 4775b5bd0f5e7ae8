use Rattle.std.proofs.Common.{◌≡◌, length}
use Rattle.i3c_draw.specs.Rows.{below_printed}
use Rattle.i3c_draw.proofs.labels.below_printed.Given as goal

-- the lines that are left to count
abbrev pub invariant-loop-rest : goal.invariant-loop-rest
invariant-loop-rest l = below_printed l.bottom l.rest ≡ below_printed l.fn.y l.fn.printed

abbrev pub decreases-loop-rest : goal.decreases-loop-rest
decreases-loop-rest l = length l.rest
