use Rattle.std.proofs.Common.{rules}
use Rattle.i3c_lines.proofs.tokens.kinds.Goals as goal

pub returns-clause-value : goal.returns-clause-value
returns-clause-value c = search rules
