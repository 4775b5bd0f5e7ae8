use Rattle.std.proofs.Common.{◌≡◌, ◌/◌, ◌++◌, arith}
use Rattle.std.specs.Fmt.{decimal}
use Rattle.i3c_text.proofs.DecimalLaws.{last_two}
use Rattle.i3c_text.proofs.numerals.push_six.Goals as goal

pub returns-clause-digits : goal.returns-clause-digits
returns-clause-digits c =
    let old = c.args.text.now.items in
    let hundreds = c.args.number / 100 in
    let first : c.push_pair.new.text.items ≡ old ++ decimal hundreds =
    last_two old c.push_two.new.text.items _ hundreds (omega arith) (omega arith) c.push_two.ensures.digits c.push_pair.ensures.digits in
    last_two old c.push_pair.new.text.items _ c.args.number (omega arith) (omega arith) first c.push_pair-2.ensures.digits
