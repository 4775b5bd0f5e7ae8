use Rattle.std.proofs.Common.{refl, subst, sym, true, false}
use Rattle.std.specs.Result.{IfOk}
use Rattle.i3c_program.specs.Choosing.{Selects}
use Rattle.i3c_program.specs.Sessions.{HearsChosen}
use Rattle.i3c_program.proofs.Written.{if_ok}
use Rattle.i3c_program.proofs.trial.Trial.choose.Goals as goal

pub returns-then-not-is_new : goal.returns-then-not-is_new
returns-then-not-is_new c = subst (λ b. IfOk c.hear.result (λ came. HearsChosen b c.args.self.now came c.hear.new.self)) (sym c.if-not-is_new.true) c.hear.ensures

pub returns-then-choose : goal.returns-then-choose
returns-then-choose c =
    let old = c.args.self.now in
    let new = c.choose.new in
    if_ok _ _ c.hear-then-choose.result
    (λ came heard.
    subst (λ b. HearsChosen b old came c.hear-then-choose.new.self) (sym c.if-not-is_new.false)
    (true, record old { selection = new.self; orders = new.orders }, subst (λ b. Selects old.selection old.orders b new.self new.orders) c.if-choose.true c.choose.ensures, (refl, refl, refl, refl, refl, (refl, refl)), heard)) c.hear-then-choose.ensures

pub returns-else-choose : goal.returns-else-choose
returns-else-choose c =
    let old = c.args.self.now in
    let new = c.choose.new in
    subst (λ b. HearsChosen b old c.stop.result c.stop.new.self) (sym c.if-not-is_new.false) (
      false,
      record old { selection = new.self; orders = new.orders },
      subst (λ b. Selects old.selection old.orders b new.self new.orders) c.if-choose.false c.choose.ensures,
      (refl, refl, refl, refl, refl, (refl, refl)),
      (c.stop.ensures.came, c.stop.ensures.stopped),
    )
