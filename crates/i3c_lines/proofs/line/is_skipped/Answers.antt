use Rattle.std.proofs.Common.{rules}
use Rattle.i3c_lines.proofs.line.is_skipped.Goals as goal

pub returns-in-Some-clause-skipped : goal.returns-in-Some-clause-skipped
returns-in-Some-clause-skipped c = search rules
