use Rattle.std.proofs.Common.{ap, arith, inl}
use Rattle.i3c_orders.specs.Paths.{tree}
use Rattle.i3c_orders.proofs.orders.Orders.choose.Goals as goal

pub returns : goal.returns
returns g c =
    let old = c.self.inside in
    rw (← c.self.view_is) (inl (
      c.pop.new.self.items,
      c.in-Some.choice,
      c.chosen-choice.result.0,
      omega (arith, c.if-len-self.false, c.len.ensures, c.self.invariant),
      c.in-Some.ensures.items,
      c.chosen-choice.ensures,
      ap (λ path. tree old.start path old.at) c.push_reserved.ensures.items,
    ))
