-- A raise sends nothing.
use Rattle.std.proofs.Common.{refl}
use Rattle.i3c_step.specs.declared.events.Event.{Event}
use Rattle.i3c_step.specs.Replies.{raised_reply}
use Rattle.i3c_script.proofs.Moving.{raised_still, raised_counted, raised_unhanded, quietly}
use Rattle.i3c_script.proofs.script_bus.ScriptBus.raise_in.Goals as goal

pub returns : goal.returns
returns g c =
    let at = c.self.inside in
    let old = at.bus.state in
    let new = c.raise-raised.new.self.state in
    let said = c.raise-raised.result in
    let event = Event.Raise c.args.slot c.args.byte in
    rw (← c.self.view_is) (quietly g.P.Past.kept g.L.Listener.heard old new at.settings at.cuts at.past event (raised_reply said) c.args.listener.now c.answer_raised.new.listener c.answer_raised.result refl
    (raised_unhanded said) (raised_counted at.settings.forgotten said) c.raise-raised.ensures.step (raised_still old new event said) c.answer_raised.ensures)
