use Rattle.std.proofs.Common.{◌≤◌}
use Rattle.i3c_stress.proofs.stressing.post_all.Given as goal

abbrev pub invariant-loop-n : goal.invariant-loop-n
invariant-loop-n g l = l.posted ≤ l.n
