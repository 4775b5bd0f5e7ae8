use Rattle.std.proofs.Common.{length}
use Rattle.i3c_runner.proofs.check.Check.+check_meant.Given as goal

abbrev pub decreases-check_meant : goal.decreases-check_meant
decreases-check_meant l = length l.meant.now
