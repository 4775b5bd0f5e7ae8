use Rattle.std.proofs.Common.{arith}
use Rattle.i3c_lines.proofs.NameLaws.{letter_test, mark_here}
use Rattle.i3c_lines.proofs.names.is_letter.Goals as goal

pub returns : goal.returns
returns c = letter_test c.args.byte _ (mark_here c.args.byte c.from.result c.from.ensures (omega arith))
