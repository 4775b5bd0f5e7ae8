-- SETNEWDA is a frame with its own part.
use Rattle.std.proofs.Common.{◌∙◌, Some, refl, sym}
use Rattle.i3c_base.specs.declared.answers.Answer.{Answer}
use Rattle.i3c_base.specs.declared.requests.Served.{Served}
use Rattle.i3c_base.specs.Frames.{SetsNew, kinds_bits}
use Rattle.i3c_base.specs.Serve.{given_for}
use Rattle.i3c_base.specs.State.{State}
use Rattle.i3c_frame.specs.Taps.{Tells}
use Rattle.i3c_step.specs.declared.events.Event.{Event}
use Rattle.i3c_step.proofs.Addresses.{IsSettled, settled_served}
use Rattle.i3c_bus.specs.Wire.{IsNewPart}
use Rattle.i3c_bus.proofs.Settings.{new_before, new_free, news_leave, pickable_same, target_same}
use Rattle.i3c_bus.proofs.ToAll.{begun_uncut}
use Rattle.i3c_bus.proofs.Transfers.{transferred}
use Rattle.i3c_bus.proofs.bus.Bus.set_new.Goals as goal

pub new_part-answer-requires-clause-left : goal.new_part-answer-requires-clause-left
new_part-answer-requires-clause-left g c =
    begun_uncut c.args.self.now.state c.begin_frame.new.self.state c.args.cuts.now c.in-Ok.start.served c.in-Ok.ensures.begins.0 c.in-Ok.ensures.begins.1 (sym c.cuts_active.ensures ∙ c.if-cuts_active.false)

pub new_part-answer-requires-clause-there : goal.new_part-answer-requires-clause-there
new_part-answer-requires-clause-there g c =
    let settled : IsSettled c.args.self.now.state c.begin_frame.new.self.state =
    settled_served c.args.self.now.state (given_for c.in-Ok.start.served) _ c.in-Ok.start.served c.begin_frame.new.self.state (c.in-Ok.ensures.begins.1.serves 0) in
    target_same c.args.self.now.state c.begin_frame.new.self.state c.args.old settled (sym c.is_no_target.ensures ∙ c.if-is_no_target.false)

pub new_part-answer-requires-clause-given : goal.new_part-answer-requires-clause-given
new_part-answer-requires-clause-given g c =
    let settled : IsSettled c.args.self.now.state c.begin_frame.new.self.state =
    settled_served c.args.self.now.state (given_for c.in-Ok.start.served) _ c.in-Ok.start.served c.begin_frame.new.self.state (c.in-Ok.ensures.begins.1.serves 0) in
    pickable_same c.args.self.now.state c.begin_frame.new.self.state c.args.new settled ∙ (sym c.is_pickable.ensures.same ∙ c.if-not-is_pickable.false)

pub returns-clause-carried : goal.returns-clause-carried
returns-clause-carried g c =
    let old : State = c.args.self.now.state in
    let mid : State = c.begin_frame.new.self.state in
    let served : Served = c.in-Ok.start.served in
    let answer : Answer = c.new_part-answer.result in
    let begins = c.in-Ok.ensures.begins in
    let part = c.new_part-answer.ensures.told in
    let told : Tells g.T.Tap.note_gives c.begin_frame.new.tap c.new_part-answer.new.tap (IsNewPart old c.args.cuts.now c.args.old c.args.new answer c.in-Ok.start.bits) =
    (part.0, part.1, new_before old (given_for served) _ served mid c.args.cuts.now c.args.old c.args.new answer c.in-Ok.start.bits part.0 (begins.1.serves 0) part.2) in
    transferred g.T.Tap.note_gives c.args.tap.now c.begin_frame.new.tap c.new_part-answer.new.tap c.args.self.now c.begin_frame.new.self c.new_part-answer.new.self
    (Event.SetNew c.args.old c.args.new (given_for served) c.args.cuts.now) c.args.cuts.now served answer begins.0 c.in-Ok.start.bits (kinds_bits (Some c.args.old) answer) c.args.role.now
    (SetsNew c.args.old c.args.new answer) (IsNewPart old c.args.cuts.now c.args.old c.args.new answer)
    (new_free old c.args.cuts.now c.args.old c.args.new c.requires.fits.1 (sym c.cuts_active.ensures ∙ c.if-cuts_active.false) (sym c.is_no_target.ensures ∙ c.if-is_no_target.false)
    (sym c.is_pickable.ensures.same ∙ c.if-not-is_pickable.false))
    (λ frame. (record { served = served; answer = answer }, refl, frame)) (λ symbols w. w) (λ lost done h. news_leave c.args.old c.args.new answer lost mid done h)
    c.requires.fits begins.1 begins.2 begins.3 told c.new_part-answer.ensures.sets c.in-Ok.ensures.room c.new_part-answer.ensures.room
