use Rattle.std.proofs.Common.{Ok, Err, refl, subst, true, false}
use Rattle.i3c_program.specs.Choosing.{GoesTo}
use Rattle.i3c_program.proofs.trial.Trial.go_on.Goals as goal

pub returns-in-Ok-true : goal.returns-in-Ok-true
returns-in-Ok-true c =
    let old = c.args.self.now in
    let next = c.go_on.new in (
      Ok true,
      record old { selection = next.self; orders = next.orders },
      subst (λ b. GoesTo old.selection old.orders (Ok b) next.self next.orders) c.in-Ok-true.field-0-test c.in-Ok-true.ensures,
      (refl, refl, refl, refl, refl, (refl, refl)),
      c.begin.ensures,
    )

pub returns-in-Ok-false : goal.returns-in-Ok-false
returns-in-Ok-false c =
    let old = c.args.self.now in
    let next = c.go_on.new in (
      Ok false,
      record old { selection = next.self; orders = next.orders },
      subst (λ b. GoesTo old.selection old.orders (Ok b) next.self next.orders) c.in-Ok-false.field-0-test c.in-Ok-false.ensures,
      (refl, refl, refl, refl, refl, (refl, refl)),
      c.end_all.ensures,
    )

pub returns-in-Err : goal.returns-in-Err
returns-in-Err c =
    let old = c.args.self.now in
    let next = c.go_on.new in (
      Err _,
      record old { selection = next.self; orders = next.orders },
      c.in-Err.ensures,
      (refl, refl, refl, refl, refl, (refl, refl)),
      (c.stop.ensures.came, c.stop.ensures.stopped),
    )
