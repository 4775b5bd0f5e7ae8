-- SETMWL and SETMRL are frames with their own part.
use Rattle.std.proofs.lemmas.Option.{same_Some}
use Rattle.std.proofs.Common.{◌≡◌, ◌∙◌, ◌+◌, ℕ, Option, Some, false, refl, subst, sym}
use Rattle.i3c_base.specs.declared.answers.Answer.{Answer}
use Rattle.i3c_base.specs.declared.requests.Served.{Served}
use Rattle.i3c_base.specs.Frames.{SetsLength, length_bits}
use Rattle.i3c_base.specs.Serve.{given_for}
use Rattle.i3c_base.specs.State.{State}
use Rattle.i3c_events.specs.Wire.{IsLengthWire}
use Rattle.i3c_frame.specs.Taps.{Tells}
use Rattle.i3c_step.specs.declared.events.Event.{Event}
use Rattle.i3c_step.specs.Step.{is_no_target}
use Rattle.i3c_bus.specs.Beginning.{LeavesBy}
use Rattle.i3c_bus.specs.Wire.{IsAnswered, IsLengthPart}
use Rattle.i3c_bus.proofs.Framing.{target_free}
use Rattle.i3c_bus.proofs.Heard.{answered_before}
use Rattle.i3c_bus.proofs.ToAll.{begun_uncut}
use Rattle.i3c_bus.proofs.Transfers.{lengths_leave, transferred}
use Rattle.i3c_bus.proofs.bus.Bus.set_length.Goals as goal
use Rattle.i3c_bus.proofs.bus.Bus.set_length.Goals.{in-Some+else-is_no_target, in_default}

pub length_part-answer-requires-clause-left : goal.length_part-answer-requires-clause-left
length_part-answer-requires-clause-left g c =
    begun_uncut c.args.self.now.state c.begin_frame.new.self.state c.args.cuts.now c.in-Ok.start.served c.in-Ok.ensures.begins.0 c.in-Ok.ensures.begins.1 (sym c.cuts_active.ensures ∙ c.if-cuts_active.false)

pub returns-clause-carried : goal.returns-clause-carried
returns-clause-carried g c =
    let old : State = c.args.self.now.state in
    let mid : State = c.begin_frame.new.self.state in
    let new : State = c.length_part-answer.new.self.state in
    let served : Served = c.in-Ok.start.served in
    let answer : Answer = c.length_part-answer.result in
    let begun : ℕ = c.in-Ok.start.bits in
    let begins = c.in-Ok.ensures.begins in
    let to : c.match-to.to ≡ c.args.to = elim c.match-to.branch [
      | in-Some+else-is_no_target w ↦ w.to-is ∙ sym w.in-Some.is
      | in_default w ↦ w.to-is
    ] in
    let there : (a : ℕ) → c.args.to ≡ Some a → is_no_target old a ≡ false = λ (a : ℕ) (e : c.args.to ≡ Some a). elim c.match-to.branch [
      | in-Some+else-is_no_target w ↦ subst (λ (k : ℕ). is_no_target old k ≡ false) (same_Some w.in-Some.address a (sym w.in-Some.is ∙ e)) (sym w.is_no_target.ensures ∙ w.if-is_no_target.false)
      | in_default w ↦ absurd (w.in_default.not-Some a e)
    ] in
    let leaves : LeavesBy c.args.cuts.now (begun + length_bits c.args.to answer) (SetsLength c.args.to c.args.way c.args.most answer) mid new =
    subst (λ (t : Option ℕ). LeavesBy c.args.cuts.now (begun + length_bits t answer) (SetsLength t c.args.way c.args.most answer) mid new) to c.length_part-answer.ensures.sets in
    let wire = subst (λ (t : Option ℕ). Tells g.T.Tap.note_gives c.begin_frame.new.tap c.length_part-answer.new.tap (IsLengthWire c.args.way t c.args.most answer)) to c.length_part-answer.ensures.told in
    let answered : IsAnswered old c.args.cuts.now c.args.to begun answer =
    answered_before old (given_for served) _ served mid c.args.cuts.now c.args.to begun answer (begins.1.serves 0)
    (subst (λ (t : Option ℕ). IsAnswered mid c.args.cuts.now t begun answer) to c.length_part-answer.ensures.answered) in
    let told : Tells g.T.Tap.note_gives c.begin_frame.new.tap c.length_part-answer.new.tap (IsLengthPart old c.args.cuts.now c.args.way c.args.to c.args.most answer begun) =
    (wire.0, wire.1, (wire.2, answered)) in
    transferred g.T.Tap.note_gives c.args.tap.now c.begin_frame.new.tap c.length_part-answer.new.tap c.args.self.now c.begin_frame.new.self c.length_part-answer.new.self
    (Event.SetLength c.args.way c.args.most c.args.to (given_for served) c.args.cuts.now) c.args.cuts.now served answer begins.0 begun (length_bits c.args.to answer) c.args.role.now
    (SetsLength c.args.to c.args.way c.args.most answer) (IsLengthPart old c.args.cuts.now c.args.way c.args.to c.args.most answer)
    (target_free old c.args.cuts.now c.args.to c.requires.fits.1 (sym c.cuts_active.ensures ∙ c.if-cuts_active.false) there)
    (λ frame. (record { served = served; answer = answer }, refl, frame)) (λ symbols w. w) (λ lost done h. lengths_leave c.args.to c.args.way c.args.most answer lost mid done h)
    c.requires.fits begins.1 begins.2 begins.3 told leaves c.in-Ok.ensures.room c.length_part-answer.ensures.room
