use Rattle.std.proofs.Common.{rules}
use Rattle.i3c_lines.proofs.tokens.place.Goals as goal

pub returns-in_default-clause-form : goal.returns-in_default-clause-form
returns-in_default-clause-form c = search rules
