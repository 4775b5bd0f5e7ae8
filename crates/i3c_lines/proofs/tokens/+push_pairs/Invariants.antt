use Rattle.std.proofs.Common.{length}
use Rattle.i3c_lines.proofs.tokens.+push_pairs.Given as goal

abbrev pub decreases-push_pairs : goal.decreases-push_pairs
decreases-push_pairs l = length l.digits.now
