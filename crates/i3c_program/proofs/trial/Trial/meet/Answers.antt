use Rattle.std.proofs.Common.{Err, refl, subst}
use Rattle.i3c_orders.specs.Paths.{Answers as SendsSo}
use Rattle.std.specs.Result.{IfOk}
use Rattle.i3c_program.specs.Sessions.{HearsChosen, fails, gives}
use Rattle.i3c_program.proofs.Coming.{chosen_comes, differs_comes, failed_comes}
use Rattle.i3c_program.proofs.Written.{if_ok}
use Rattle.i3c_program.proofs.trial.Trial.meet.Goals as goal

pub returns-in-Ok : goal.returns-in-Ok
returns-in-Ok c =
    let old = c.args.self.now in
    let chosen = subst (λ b. IfOk c.choose.result (λ came. HearsChosen b (record old { runner = c.send.new.room; orders = c.send.new.orders }) came c.choose.new.self)) c.is_new-is_new.ensures c.choose.ensures in
    if_ok _ _ c.choose.result (λ came is. chosen_comes old c.args.sent c.send.new.room c.send.new.orders came _ c.in-Ok.ensures is) chosen

pub returns-in-Err-Differs : goal.returns-in-Err-Differs
returns-in-Err-Differs c =
    differs_comes c.args.self.now c.args.sent c.send.new.room c.send.new.orders c.stop.result c.stop.new.self
    (subst (λ f. SendsSo (gives c.args.self.now) (fails c.args.self.now) c.args.self.now.orders c.args.sent (Err f) c.send.new.orders) c.in-Err-Differs.field-0-is c.in-Err-Differs.ensures) c.stop.ensures.came c.stop.ensures.stopped

pub returns-in-Err-Failed : goal.returns-in-Err-Failed
returns-in-Err-Failed c =
    if_ok _ _ c.end.result
    (λ came by. failed_comes c.args.self.now c.args.sent c.send.new.room c.send.new.orders c.in-Err-Failed.stop came _
    (subst (λ f. SendsSo (gives c.args.self.now) (fails c.args.self.now) c.args.self.now.orders c.args.sent (Err f) c.send.new.orders) c.in-Err-Failed.field-0-is c.in-Err-Failed.ensures) by) c.end.ensures
