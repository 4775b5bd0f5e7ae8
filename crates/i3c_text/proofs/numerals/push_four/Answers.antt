use Rattle.std.proofs.Common.{arith}
use Rattle.i3c_text.proofs.DecimalLaws.{last_two}
use Rattle.i3c_text.proofs.numerals.push_four.Goals as goal

pub returns-clause-digits : goal.returns-clause-digits
returns-clause-digits c =
    last_two _ c.push_two-2.new.text.items _ c.args.number c.if-number-lt100.false (omega arith) c.push_two-2.ensures.digits c.push_pair.ensures.digits
