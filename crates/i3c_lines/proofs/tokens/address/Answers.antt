use Rattle.std.proofs.Common.{rules}
use Rattle.i3c_lines.proofs.tokens.address.Goals as goal

pub returns-clause-form : goal.returns-clause-form
returns-clause-form c = search rules

pub returns-clause-value : goal.returns-clause-value
returns-clause-value c = search rules
