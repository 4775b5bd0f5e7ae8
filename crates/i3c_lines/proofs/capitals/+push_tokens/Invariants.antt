use Rattle.std.proofs.Common.{length}
use Rattle.i3c_lines.specs.Parsing.{left_tokens}
use Rattle.i3c_lines.proofs.capitals.+push_tokens.Given as goal

abbrev pub decreases-push_tokens : goal.decreases-push_tokens
decreases-push_tokens l = length (left_tokens l.tokens.now)
