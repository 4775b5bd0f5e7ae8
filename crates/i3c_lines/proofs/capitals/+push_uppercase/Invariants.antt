use Rattle.std.proofs.Common.{length}
use Rattle.i3c_lines.proofs.capitals.+push_uppercase.Given as goal

abbrev pub decreases-push_uppercase : goal.decreases-push_uppercase
decreases-push_uppercase l = length l.token.now
