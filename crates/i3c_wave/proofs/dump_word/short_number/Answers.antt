use Rattle.std.proofs.Common.{◌<◌, ◌≤◌, ◌∙◌, ◌+◌, ◌*◌, ◌-◌, ap, arith, drop, get_or, refl, sym}
use Rattle.std.proofs.lemmas.List.{drop_all, drop_more}
use Rattle.i3c_wave.specs.DumpWords.{number_from}
use Rattle.i3c_wave.proofs.NumberLaws.{eighteen, nineteen, number_is, number_step, ten_to_next, ten_zero}
use Rattle.i3c_wave.proofs.dump_word.short_number.Goals as goal

pub loop-digit-init : goal.loop-digit-init
loop-digit-init c = record { small = omega (arith, ten_zero); so_far = refl }

pub overflow_mul-number : goal.overflow_mul-number
overflow_mul-number c =
    let few : c.loop-digit.digit-index ≤ 18 = omega (arith, c.loop-digit-test.true, c.requires) in
    omega (arith, c.loop-digit.invariant.small, eighteen c.loop-digit.digit-index few)

pub overflow_add-number : goal.overflow_add-number
overflow_add-number c =
    let few : c.loop-digit.digit-index ≤ 18 = omega (arith, c.loop-digit-test.true, c.requires) in
    omega (arith, c.loop-digit.invariant.small, eighteen c.loop-digit.digit-index few, c.from-code.ensures, c.if-code-gt-NINE.false)

pub loop-digit-preserved : goal.loop-digit-preserved
loop-digit-preserved c =
    let digits = c.args.digits.now in
    let i = c.loop-digit.digit-index in
    let number = c.loop-digit.number in
    let digit = get_or digits i 0 in
    let few : i ≤ 18 = omega (arith, c.loop-digit-test.true, c.requires) in
    let small : number ≤ 1000000000000000000 = omega (arith, c.loop-digit.invariant.small, eighteen i few) in
    let least : 48 ≤ digit = omega (arith, c.from-code.ensures, c.if-code-lt-ZERO.false) in
    let most : digit ≤ 57 = omega (arith, c.from-code.ensures, c.if-code-gt-NINE.false) in
    record {
      small = omega (arith, c.loop-digit.invariant.small, ten_to_next i, c.from-code.ensures, c.if-code-gt-NINE.false);
      so_far = c.loop-digit.invariant.so_far ∙ ap (number_from number) (drop_more digits i 0 c.loop-digit-test.true) ∙ number_step number digit (drop (i + 1) digits) small least most
          ∙ ap (λ d. number_from (number * 10 + (d - 48)) (drop (i + 1) digits)) (sym c.from-code.ensures);
    }

pub returns : goal.returns
returns c =
    let number = c.loop-digit.number in
    let few : c.loop-digit.digit-index ≤ 19 = omega (arith, c.loop-digit.auto.digit-index-end, c.requires) in
    let small : number < 10000000000000000000 = omega (arith, c.loop-digit.invariant.small, nineteen c.loop-digit.digit-index few) in
    number_is number small ∙ sym (c.loop-digit.invariant.so_far ∙ ap (number_from number) (drop_all c.loop-digit.digit-index c.args.digits.now c.loop-digit-test.false))
