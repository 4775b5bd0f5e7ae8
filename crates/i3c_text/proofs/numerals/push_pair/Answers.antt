use Rattle.std.proofs.Common.{◌*◌, ◌+◌, get_or}
use Rattle.i3c_text.proofs.DecimalLaws.{ones_at, tens_at, two_pushed}
use Rattle.i3c_text.specs.declared.numerals.TheConstants.{TENS}
use Rattle.i3c_text.proofs.numerals.push_pair.Goals as goal

pub returns-clause-digits : goal.returns-clause-digits
returns-clause-digits c =
    let n = c.args.number in
    two_pushed _ c.push_reserved.new.self.items _ (get_or TENS (2 * n) 0) (get_or TENS (2 * n + 1) 0) _ _ c.push_reserved.ensures.items c.push_reserved-2.ensures.items (tens_at n c.requires.short) (ones_at n c.requires.short)
