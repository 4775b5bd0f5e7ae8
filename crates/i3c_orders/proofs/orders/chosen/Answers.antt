use Rattle.std.proofs.Common.{◌≡◌, ◌∙◌, ◌+◌, ◌≤◌, arith, ap, length, refl, suc, sym, take}
use Rattle.std.proofs.lemmas.List.{take-append-le}
use Rattle.i3c_orders.proofs.orders.chosen.Goals as goal

pub returns : goal.returns
returns g c =
    let left = c.args.choice.left.items in
    let same : c.args.number + 1 ≡ suc c.args.number = omega arith in
    let inside : suc c.args.number ≤ length left = omega (arith, c.if-number-last.false, c.len-last.ensures) in (
      omega (arith, inside),
      refl,
      sym c.in-Some.ensures.items ∙ c.truncate.ensures.items ∙ ap (λ n. take n left) same ∙ sym (take-append-le (suc c.args.number) left _ inside),
    )
