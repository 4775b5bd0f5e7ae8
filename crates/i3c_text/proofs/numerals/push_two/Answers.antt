use Rattle.std.proofs.Common.{◌∙◌, ◌++◌, ap, sym}
use Rattle.i3c_text.proofs.DecimalLaws.{one_digit, two_digits}
use Rattle.i3c_text.proofs.numerals.push_two.Goals as goal

pub returns-then-number-lt10-clause-digits : goal.returns-then-number-lt10-clause-digits
returns-then-number-lt10-clause-digits c = one_digit _ _ c.args.number c.if-number-lt10.true c.push_reserved.ensures.items

pub returns-clause-digits : goal.returns-clause-digits
returns-clause-digits c = c.push_pair.ensures.digits ∙ ap (λ ds. c.args.text.now.items ++ ds) (sym (two_digits c.args.number c.if-number-lt10.false c.requires.short))
