-- A wish to join sends nothing.
use Rattle.std.proofs.Common.{refl}
use Rattle.i3c_step.specs.declared.events.Event.{Event}
use Rattle.i3c_step.specs.Replies.{joins_reply}
use Rattle.i3c_script.specs.Situations.{situation}
use Rattle.i3c_script.proofs.Moving.{join_still, join_counted, join_unhanded, in_slot, quietly}
use Rattle.i3c_script.proofs.script_bus.ScriptBus.ask_join.Goals as goal

pub returns-in-Ok : goal.returns-in-Ok
returns-in-Ok g c =
    let at = c.self.inside in
    let kept = g.P.Past.kept in
    let heard = g.L.Listener.heard in
    let old = at.bus.state in
    let new = c.ask_join-asked.new.self.state in
    let said = c.ask_join-asked.result in
    let event = Event.AskJoin c.in-Ok.slot in
    rw (← c.self.view_is) (in_slot kept heard g.N.Naming.kept (situation old at.settings at.cuts at.past) (situation new at.settings at.cuts at.past) c.args.names.now c.args.name.now Event.AskJoin c.in-Ok.slot c.args.listener.now c.answer_join.new.listener c.answer_join.result c.in-Ok.ensures
    (quietly kept heard old new at.settings at.cuts at.past event (joins_reply said) c.args.listener.now c.answer_join.new.listener c.answer_join.result refl
    (join_unhanded said) (join_counted at.settings.forgotten said) c.ask_join-asked.ensures.step (join_still old new event said) c.answer_join.ensures))
