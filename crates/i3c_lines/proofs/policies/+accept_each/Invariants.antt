use Rattle.std.proofs.Common.{length}
use Rattle.i3c_lines.specs.Parsing.{left_tokens}
use Rattle.i3c_lines.proofs.policies.+accept_each.Given as goal

abbrev pub decreases-accept_each : goal.decreases-accept_each
decreases-accept_each l = length (left_tokens l.tokens.now)
