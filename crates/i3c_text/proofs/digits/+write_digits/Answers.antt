use Rattle.std.proofs.Common.{true, sym, refl, rules}
use Rattle.std.proofs.Output.{has_written_append, has_written_of_eq}
use Rattle.i3c_text.proofs.DigitLaws.{hex_text_less, hex_text_none}
use Rattle.i3c_text.proofs.digits.+write_digits.Goals as goal

pub returns-in_ok-write_digit : goal.returns-in_ok-write_digit
returns-in_ok-write_digit g t c plain ok =
    let front = c.in_ok-write_digits.ensures plain (refl {a = true}) in
    let last = c.in_ok-write_digit.ensures front.plain (refl {a = true}) in
    has_written_of_eq _ _ _ _ _ (sym (hex_text_less c.args.count c.args.number c.if-count-gt0.true)) (has_written_append _ _ _ _ _ _ front last)

pub returns-else-count-gt0 : goal.returns-else-count-gt0
returns-else-count-gt0 g t c plain ok =
    has_written_of_eq _ _ _ _ _ (sym (hex_text_none c.args.count c.args.number c.if-count-gt0.false)) (search rules)
