use Rattle.std.proofs.Common.{◌≡◌, ◌<◌, ◌+◌, ◌*◌, ◌^◌, get_or, arith, below_more, lit<, true, ap, refl, subst, ◌∙◌}
use Rattle.std.proofs.lemmas.Bool.{both_ways}
use Rattle.std.proofs.lemmas.Int.Digits.{digits_value_more}
use Rattle.std.proofs.lemmas.List.{get_or_default}
use Rattle.std.specs.Fmt.{digit_glyph}
use Rattle.i3c_text.specs.Digits.{IsHexDigit}
use Rattle.i3c_text.proofs.DigitLaws.{digits_step, fits_digits, hex_text_none, lt_more, not_digits}
use Rattle.i3c_text.proofs.digits.read_digits.Goals as goal

pub loop-byte-init : goal.loop-byte-init
loop-byte-init c = record { form = λ k within. absurd (omega (arith, within)); value = refl; range = lit< tt; text = hex_text_none 0 0 (omega arith) }

-- the number and one digit more
more : (c : goal.After-from) → 16 * c.loop-byte.number + c.from.result < 16 ^ (c.loop-byte.byte-index + 1)
more c = let digit : c.from.result < 16 = omega (arith, c.in_ok-digit.ensures.value.1) in lt_more _ _ _ c.loop-byte.invariant.range digit

pub overflow_mul-number : goal.overflow_mul-number
overflow_mul-number c = omega (arith, fits_digits _ _ (omega arith) (lt_more c.loop-byte.byte-index c.loop-byte.number 0 c.loop-byte.invariant.range (lit< tt)))

pub overflow_add-number : goal.overflow_add-number
overflow_add-number c = omega (arith, fits_digits (c.loop-byte.byte-index + 1) _ (omega arith) (more c))

pub returns-in_err-digit-clause-every : goal.returns-in_err-digit-clause-every
returns-in_err-digit-clause-every c n e =
    absurd (not_digits c.args.digits.now n c.loop-byte.byte-index c.loop-byte-test.true (λ digit. both_ways _ refl (c.in_err-digit.ensures.form.1 digit)) e)

pub loop-byte-preserved : goal.loop-byte-preserved
loop-byte-preserved c = record {
  form = below_more (λ k. IsHexDigit (get_or c.args.digits.now k 0)) _ c.loop-byte.invariant.form (c.in_ok-digit.ensures.form.0 refl);
  value = let e = digits_value_more 16 c.args.digits.now c.loop-byte.byte-index c.loop-byte-test.true in omega (arith, e, c.loop-byte.invariant.value, c.in_ok-digit.ensures.value.0, c.from.ensures);
  range = more c;
  text = digits_step _ _ _ _ c.loop-byte-test.true (omega (arith, c.in_ok-digit.ensures.value.1)) (ap (digit_glyph true) c.from.ensures ∙ c.in_ok-digit.ensures.glyph) c.loop-byte.invariant.text;
}

pub returns-clause-form : goal.returns-clause-form
returns-clause-form c = (λ _. λ k d within. subst IsHexDigit (get_or_default c.args.digits.now k 0 d within) (c.loop-byte.invariant.form k (omega (arith, within))), λ _. refl)
