-- GETPID and its like are frames with their own part.
use Rattle.std.proofs.Common.{◌∙◌, ◌+◌, refl, subst, sym}
use Rattle.i3c_base.specs.declared.answers.Answer.{Answer}
use Rattle.i3c_base.specs.declared.requests.Served.{Served}
use Rattle.i3c_base.specs.Frames.{Gets, get_bits}
use Rattle.i3c_base.specs.Serve.{given_for}
use Rattle.i3c_base.specs.State.{State, entry_at}
use Rattle.i3c_frame.specs.Taps.{Tells}
use Rattle.i3c_step.specs.declared.events.Event.{Event}
use Rattle.i3c_bus.specs.Beginning.{LeavesBy}
use Rattle.i3c_bus.specs.Wire.{IsGetPart}
use Rattle.i3c_bus.proofs.Asked.{get_before, get_free, gets_leave, same_entry}
use Rattle.i3c_bus.proofs.ToAll.{begun_uncut}
use Rattle.i3c_bus.proofs.Transfers.{transferred}
use Rattle.i3c_bus.proofs.bus.Bus.get.Goals as goal

pub get_part-answer-requires-clause-left : goal.get_part-answer-requires-clause-left
get_part-answer-requires-clause-left g c =
    begun_uncut c.args.self.now.state c.begin_frame.new.self.state c.args.cuts.now c.in-Ok.start.served c.in-Ok.ensures.begins.0 c.in-Ok.ensures.begins.1 (sym c.cuts_active.ensures ∙ c.if-cuts_active.false)

pub returns-clause-carried : goal.returns-clause-carried
returns-clause-carried g c =
    let old : State = c.args.self.now.state in
    let mid : State = c.begin_frame.new.self.state in
    let new : State = c.get_part-answer.new.self.state in
    let served : Served = c.in-Ok.start.served in
    let answer : Answer = c.get_part-answer.result in
    let begins = c.in-Ok.ensures.begins in
    let part = c.get_part-answer.ensures.told in
    let leaves : LeavesBy c.args.cuts.now (c.in-Ok.start.bits + get_bits c.args.what (entry_at old c.args.from) answer) (Gets c.args.what c.args.from answer) mid new =
    subst (λ entry. LeavesBy c.args.cuts.now (c.in-Ok.start.bits + get_bits c.args.what entry answer) (Gets c.args.what c.args.from answer) mid new)
    (same_entry old mid c.args.cuts.now served begins.0 c.args.from begins.1) c.get_part-answer.ensures.gets in
    let told : Tells g.T.Tap.note_gives c.begin_frame.new.tap c.get_part-answer.new.tap (IsGetPart old c.args.cuts.now c.args.what c.args.from answer new c.in-Ok.start.bits) =
    (part.0, part.1, get_before old mid new c.args.cuts.now c.args.what c.args.from answer served begins.0 c.in-Ok.start.bits part.0 begins.1 begins.2 leaves part.2) in
    transferred g.T.Tap.note_gives c.args.tap.now c.begin_frame.new.tap c.get_part-answer.new.tap c.args.self.now c.begin_frame.new.self c.get_part-answer.new.self
    (Event.Get c.args.what c.args.from (given_for served) c.args.cuts.now) c.args.cuts.now served answer begins.0 c.in-Ok.start.bits (get_bits c.args.what (entry_at old c.args.from) answer) c.args.role.now
    (Gets c.args.what c.args.from answer) (IsGetPart old c.args.cuts.now c.args.what c.args.from answer new)
    (get_free old c.args.cuts.now c.args.from c.requires.fits.1 (sym c.cuts_active.ensures ∙ c.if-cuts_active.false) (sym c.is_no_target.ensures ∙ c.if-is_no_target.false))
    (λ frame. (record { served = served; answer = answer }, refl, frame)) (λ symbols w. w) (λ lost done h. gets_leave c.args.what c.args.from answer lost mid done h)
    c.requires.fits begins.1 begins.2 begins.3 told leaves c.in-Ok.ensures.room c.get_part-answer.ensures.room
