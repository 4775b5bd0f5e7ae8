use Rattle.std.proofs.Common.{length}
use Rattle.i3c_lines.specs.Parsing.{left_tokens}
use Rattle.i3c_lines.proofs.policies.+accept_until_but.Given as goal

abbrev pub decreases-accept_until_but : goal.decreases-accept_until_but
decreases-accept_until_but l = length (left_tokens l.tokens.now)
