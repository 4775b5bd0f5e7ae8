-- A device that enters sends nothing.
use Rattle.std.proofs.Common.{[], Err, Ok, refl, subst, sym}
use Rattle.i3c_step.specs.declared.events.Event.{Event}
use Rattle.i3c_step.specs.Replies.{attached_reply}
use Rattle.i3c_script.specs.declared.replies.Subject.{Subject}
use Rattle.i3c_script.specs.Hearing.{Hears}
use Rattle.i3c_script.specs.Obeying.{AnswersOf, Enters}
use Rattle.i3c_script.specs.Situations.{situation}
use Rattle.i3c_script.specs.Telling.{IsTold}
use Rattle.i3c_script.proofs.Hearing.{hears_by}
use Rattle.i3c_script.proofs.Moving.{answered, attached_counted, attached_still, attached_unhanded, unsent}
use Rattle.i3c_script.proofs.script_bus.ScriptBus.attach.Goals as goal

pub returns-in-Ok-give_slot : goal.returns-in-Ok-give_slot
returns-in-Ok-give_slot g c =
    let heard = g.L.Listener.heard in
    let past = g.P.Past.kept in
    let kept = g.N.Naming.kept in
    let at = c.self.inside in
    let before = at.bus.state in
    let after = c.attach-attached.new.self.state in
    let old = situation before at.settings at.cuts at.past in
    let new = situation after at.settings at.cuts at.past in
    let names = c.args.names.now in
    let named = c.give_slot.new.self in
    let event = Event.Attach c.in-Ok.slot c.args.setup in
    let subject = Subject.Attached c.args.name.now c.in-Ok.slot in
    let said = c.attach-attached.result in
    let answers = answered past heard subject old new event (attached_reply said) c.args.listener.now c.answer_attached.new.listener c.answer_attached.result
    (unsent past before after at.settings at.cuts at.past event (attached_reply said) (attached_unhanded said) c.attach-attached.ensures.step (attached_still before after event said))
    (subst (λ r. Hears heard (IsTold subject r) c.args.listener.now c.answer_attached.new.listener c.answer_attached.result) (sym (attached_counted at.settings.forgotten said)) c.answer_attached.ensures) in
    rw (← c.self.view_is) (hears_by heard (λ pieces refused. AnswersOf past subject old event pieces refused new)
    (λ pieces refused. Enters past kept old names c.args.name.now c.args.setup pieces refused new named)
    (λ pieces refused told. (Ok c.in-Ok.slot, c.in-Ok.ensures, (c.in-Ok-give_slot.ensures, told)))
    c.args.listener.now c.answer_attached.new.listener c.answer_attached.result answers)

pub returns-in-Err : goal.returns-in-Err
returns-in-Err g c = rw (← c.self.view_is) ([], refl, (Err c.in-Err.why, c.in-Err.ensures, (refl, refl, (refl, refl))))
