-- A drop-off sends nothing.
use Rattle.std.proofs.Common.{refl}
use Rattle.i3c_step.specs.declared.events.Event.{Event}
use Rattle.i3c_step.specs.Replies.{dropped_reply}
use Rattle.i3c_script.specs.Situations.{situation}
use Rattle.i3c_script.proofs.Moving.{dropped_still, dropped_counted, dropped_unhanded, in_slot, quietly}
use Rattle.i3c_script.proofs.script_bus.ScriptBus.drop_off.Goals as goal

pub returns-in-Ok : goal.returns-in-Ok
returns-in-Ok g c =
    let at = c.self.inside in
    let kept = g.P.Past.kept in
    let heard = g.L.Listener.heard in
    let old = at.bus.state in
    let new = c.drop_off-dropped.new.self.state in
    let said = c.drop_off-dropped.result in
    let event = Event.DropOff c.in-Ok.slot in
    rw (← c.self.view_is) (in_slot kept heard g.N.Naming.kept (situation old at.settings at.cuts at.past) (situation new at.settings at.cuts at.past) c.args.names.now c.args.name.now Event.DropOff c.in-Ok.slot c.args.listener.now c.answer_dropped.new.listener c.answer_dropped.result c.in-Ok.ensures
    (quietly kept heard old new at.settings at.cuts at.past event (dropped_reply said) c.args.listener.now c.answer_dropped.new.listener c.answer_dropped.result refl
    (dropped_unhanded said) (dropped_counted at.settings.forgotten said) c.drop_off-dropped.ensures.step (dropped_still old new event said) c.answer_dropped.ensures))
