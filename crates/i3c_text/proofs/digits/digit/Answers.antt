use Rattle.std.proofs.Common.{arith, refl}
use Rattle.std.proofs.lemmas.Bool.{both_ways}
use Rattle.i3c_text.proofs.DigitLaws.{glyph_of_value}
use Rattle.i3c_text.proofs.HexLaws.{a_digit, no_digit, worth_here}
use Rattle.i3c_text.proofs.digits.digit.Goals as goal

pub returns-else-worth-lt-NO_DIGIT-clause-form : goal.returns-else-worth-lt-NO_DIGIT-clause-form
returns-else-worth-lt-NO_DIGIT-clause-form c =
    (λ f. absurd (both_ways _ refl f), λ digit. absurd (no_digit c.args.byte _ (worth_here c.args.byte c.from.result c.from.ensures (omega arith)) c.if-worth-lt-NO_DIGIT.false digit))

pub returns-then-worth-lt-NO_DIGIT-clause-form : goal.returns-then-worth-lt-NO_DIGIT-clause-form
returns-then-worth-lt-NO_DIGIT-clause-form c = (λ _. (a_digit c.args.byte _ (worth_here c.args.byte c.from.result c.from.ensures (omega arith)) c.if-worth-lt-NO_DIGIT.true).0, λ _. refl)

pub returns-then-worth-lt-NO_DIGIT-clause-value : goal.returns-then-worth-lt-NO_DIGIT-clause-value
returns-then-worth-lt-NO_DIGIT-clause-value c =
    let is = a_digit c.args.byte _ (worth_here c.args.byte c.from.result c.from.ensures (omega arith)) c.if-worth-lt-NO_DIGIT.true in
    (is.1, is.2)

pub returns-then-worth-lt-NO_DIGIT-clause-glyph : goal.returns-then-worth-lt-NO_DIGIT-clause-glyph
returns-then-worth-lt-NO_DIGIT-clause-glyph c =
    let is = a_digit c.args.byte _ (worth_here c.args.byte c.from.result c.from.ensures (omega arith)) c.if-worth-lt-NO_DIGIT.true in
    glyph_of_value c.args.byte _ is.0 is.1
