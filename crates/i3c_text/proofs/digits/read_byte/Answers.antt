use Rattle.std.proofs.Common.{◌≡◌, ◌+◌, ◌*◌, ◌/◌, ◌%◌, [], ◌∷◌, ◌∙◌, arith, true}
use Rattle.std.specs.Fmt.{digit_glyph}
use Rattle.i3c_text.specs.Hex.{hex_text}
use Rattle.i3c_text.proofs.DigitLaws.{two_digits}
use Rattle.i3c_text.proofs.digits.read_byte.Goals as goal

pub returns-in_err-digit-clause-every : goal.returns-in_err-digit-clause-every
returns-in_err-digit-clause-every c n e = let some = c.in_err-digit.ensures.form.1 (two_digits n _ _ e).0 in cc

pub returns-in_err-digit-2-clause-every : goal.returns-in_err-digit-2-clause-every
returns-in_err-digit-2-clause-every c n e = let some = c.in_err-digit-2.ensures.form.1 (two_digits n _ _ e).1 in cc

pub returns-clause-text : goal.returns-clause-text
unfolding hex_text
returns-clause-text c =
    let high = c.in_ok-digit.field-0 in
    let low = c.in_ok-digit-2.field-0 in
    let small = c.in_ok-digit.ensures.value.1 in
    let less = c.in_ok-digit-2.ensures.value.1 in
    let front : (16 * high + low) / 16 % 16 ≡ high = omega (arith, small, less) in
    let back : (16 * high + low) % 16 ≡ low = omega (arith, small, less) in
    (λ i. digit_glyph true (front i) ∷ digit_glyph true (back i) ∷ []) ∙ (λ i. c.in_ok-digit.ensures.glyph i ∷ c.in_ok-digit-2.ensures.glyph i ∷ [])
