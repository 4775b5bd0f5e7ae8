-- A wish for the role sends nothing.
use Rattle.std.proofs.Common.{refl}
use Rattle.i3c_step.specs.declared.events.Event.{Event}
use Rattle.i3c_step.specs.Replies.{role_reply}
use Rattle.i3c_script.specs.Situations.{situation}
use Rattle.i3c_script.proofs.Moving.{role_still, role_counted, role_unhanded, in_slot, quietly}
use Rattle.i3c_script.proofs.script_bus.ScriptBus.ask_role.Goals as goal

pub returns-in-Ok : goal.returns-in-Ok
returns-in-Ok g c =
    let at = c.self.inside in
    let kept = g.P.Past.kept in
    let heard = g.L.Listener.heard in
    let old = at.bus.state in
    let new = c.ask_role-asked.new.self.state in
    let said = c.ask_role-asked.result in
    let event = Event.AskRole c.in-Ok.slot in
    rw (← c.self.view_is) (in_slot kept heard g.N.Naming.kept (situation old at.settings at.cuts at.past) (situation new at.settings at.cuts at.past) c.args.names.now c.args.name.now Event.AskRole c.in-Ok.slot c.args.listener.now c.answer_role.new.listener c.answer_role.result c.in-Ok.ensures
    (quietly kept heard old new at.settings at.cuts at.past event (role_reply said) c.args.listener.now c.answer_role.new.listener c.answer_role.result refl
    (role_unhanded said) (role_counted at.settings.forgotten said) c.ask_role-asked.ensures.step (role_still old new event said) c.answer_role.ensures))
