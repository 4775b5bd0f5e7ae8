-- A private read is a frame with its own part.
use Rattle.std.proofs.Common.{◌∙◌, ◌+◌, ℕ, refl, subst, sym}
use Rattle.i3c_base.specs.declared.answers.Answer.{Answer}
use Rattle.i3c_base.specs.declared.datum.Direction.{Direction}
use Rattle.i3c_base.specs.declared.requests.Served.{Served}
use Rattle.i3c_base.specs.Frames.{Reads, read_bits, transfer_length}
use Rattle.i3c_base.specs.Serve.{given_for}
use Rattle.i3c_base.specs.State.{State}
use Rattle.i3c_frame.specs.Taps.{Tells}
use Rattle.i3c_step.specs.declared.events.Event.{Event}
use Rattle.i3c_bus.specs.Beginning.{LeavesBy}
use Rattle.i3c_bus.specs.Wire.{IsReadPart}
use Rattle.i3c_bus.proofs.ToAll.{begun_uncut}
use Rattle.i3c_bus.proofs.Transfers.{Alike, alike_serves, read_before, read_free, reads_leave, transferred}
use Rattle.i3c_bus.proofs.bus.Bus.read.Goals as goal

pub read_part-answer-requires-clause-left : goal.read_part-answer-requires-clause-left
read_part-answer-requires-clause-left g c =
    begun_uncut c.args.self.now.state c.begin_frame.new.self.state c.args.cuts.now c.in-Ok.start.served c.in-Ok.ensures.begins.0 c.in-Ok.ensures.begins.1 (sym c.cuts_active.ensures ∙ c.if-cuts_active.false)

pub returns-clause-carried : goal.returns-clause-carried
returns-clause-carried g c =
    let old : State = c.args.self.now.state in
    let mid : State = c.begin_frame.new.self.state in
    let served : Served = c.in-Ok.start.served in
    let answer : Answer = c.read_part-answer.result in
    let begins = c.in-Ok.ensures.begins in
    let part = c.read_part-answer.ensures.told in
    let count : ℕ = transfer_length old Direction.Read c.args.from in
    let alike : Alike old mid = alike_serves old (given_for served) _ served mid (begins.1.serves 0) in
    let leaves : LeavesBy c.args.cuts.now (c.in-Ok.start.bits + read_bits count answer) (Reads c.args.from answer) mid c.read_part-answer.new.self.state =
    subst (λ (n : ℕ). LeavesBy c.args.cuts.now (c.in-Ok.start.bits + read_bits n answer) (Reads c.args.from answer) mid c.read_part-answer.new.self.state)
    (alike.length Direction.Read c.args.from) c.read_part-answer.ensures.reads in
    let told : Tells g.T.Tap.note_gives c.begin_frame.new.tap c.read_part-answer.new.tap (IsReadPart old c.args.cuts.now c.args.from answer c.in-Ok.start.bits) =
    (part.0, part.1, read_before old mid c.args.cuts.now c.args.from answer c.in-Ok.start.bits part.0 alike part.2) in
    transferred g.T.Tap.note_gives c.args.tap.now c.begin_frame.new.tap c.read_part-answer.new.tap c.args.self.now c.begin_frame.new.self c.read_part-answer.new.self
    (Event.ReadFrom c.args.from (given_for served) c.args.cuts.now) c.args.cuts.now served answer begins.0 c.in-Ok.start.bits (read_bits count answer) c.args.role.now (Reads c.args.from answer)
    (IsReadPart old c.args.cuts.now c.args.from answer)
    (read_free old c.args.cuts.now c.args.from c.requires.fits.1 (sym c.cuts_active.ensures ∙ c.if-cuts_active.false) (sym c.is_no_partner.ensures ∙ c.if-is_no_partner.false))
    (λ frame. (record { served = served; answer = answer }, refl, frame)) (λ symbols w. w) (λ lost done h. reads_leave c.args.from answer lost mid done h)
    c.requires.fits begins.1 begins.2 begins.3 told leaves c.in-Ok.ensures.room c.read_part-answer.ensures.room
