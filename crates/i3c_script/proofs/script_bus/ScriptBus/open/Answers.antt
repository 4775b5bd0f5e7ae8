-- The frame's cuts are taken before.
use Rattle.std.proofs.Common.{refl, subst}
use Rattle.i3c_step.specs.declared.events.Event.{Event}
use Rattle.i3c_script.specs.Hearing.{Hears}
use Rattle.i3c_script.specs.Obeying.{Answers}
use Rattle.i3c_script.proofs.Moving.{answers_framed}
use Rattle.i3c_script.proofs.script_bus.ScriptBus.open.Goals as goal

pub returns : goal.returns
returns g c =
    let heard = g.L.Listener.heard in
    let kept = g.P.Past.kept in
    let old = c.args.self.now in
    subst (λ cuts. Hears heard (λ pieces refused. Answers kept old (Event.OpenDaa cuts) pieces refused c.answer.new.self) c.args.listener.now c.answer.new.listener c.answer.result) c.take_cuts-cuts.ensures.taken
    (answers_framed kept heard old c.take_cuts-cuts.new.self c.answer.new.self (Event.OpenDaa c.take_cuts-cuts.result) c.args.listener.now c.answer.new.listener c.answer.result refl c.take_cuts-cuts.ensures.left c.answer.ensures)
