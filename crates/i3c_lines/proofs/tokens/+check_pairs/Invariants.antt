use Rattle.std.proofs.Common.{length}
use Rattle.i3c_lines.proofs.tokens.+check_pairs.Given as goal

abbrev pub decreases-check_pairs : goal.decreases-check_pairs
decreases-check_pairs l = length l.digits.now
