use Rattle.std.proofs.Common.{inr, refl, subst}
use Rattle.i3c_every.specs.declared.marks.Taking.{Taking}
use Rattle.i3c_program.specs.Sessions.{TakesMark}
use Rattle.i3c_program.proofs.Written.{if_ok}
use Rattle.i3c_program.proofs.trial.Trial.send.Goals as goal

pub returns-in-New : goal.returns-in-New
returns-in-New c =
    let (takes, same) = c.in_ok-take_mark.ensures in
    let is_new = subst (λ t. TakesMark c.args.self.now c.args.sent t c.take_mark.new.self) c.in-New.is takes in
    if_ok _ _ c.meet.result (λ came goes. inr (c.if-not-is_going.ensures.0 refl, (Taking.New, c.take_mark.new.self, is_new, same, goes))) c.meet.ensures

pub returns-in-Known : goal.returns-in-Known
returns-in-Known c =
    let (takes, same) = c.in_ok-take_mark.ensures in
    inr (c.if-not-is_going.ensures.0 refl, (Taking.Known, c.take_mark.new.self, subst (λ t. TakesMark c.args.self.now c.args.sent t c.take_mark.new.self) c.in-Known.is takes, same, (c.leave.ensures.came, c.leave.ensures.left)))

pub returns-in-Full : goal.returns-in-Full
returns-in-Full c =
    let (takes, same) = c.in_ok-take_mark.ensures in
    inr (c.if-not-is_going.ensures.0 refl, (Taking.Full, c.take_mark.new.self, subst (λ t. TakesMark c.args.self.now c.args.sent t c.take_mark.new.self) c.in-Full.is takes, same, (c.stop.ensures.came, c.stop.ensures.stopped)))
