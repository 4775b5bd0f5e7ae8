-- A private write is a frame with its own part.
use Rattle.std.proofs.Common.{◌≡◌, ◌∙◌, ◌≤◌, ℕ, List, false, length, take, arith, refl, subst, sym}
use Rattle.std.proofs.lemmas.List.{take_all}
use Rattle.i3c_base.specs.declared.answers.Answer.{Answer}
use Rattle.i3c_base.specs.declared.requests.Served.{Served}
use Rattle.i3c_base.specs.Frames.{Writes, write_bits}
use Rattle.i3c_base.specs.Serve.{given_for}
use Rattle.i3c_base.specs.State.{State}
use Rattle.i3c_frame.specs.Taps.{Tells}
use Rattle.i3c_step.specs.declared.events.Event.{Event}
use Rattle.i3c_step.specs.declared.events.TheConstants.{WRITE_KEPT}
use Rattle.i3c_step.specs.declared.replies.Reply.{Reply}
use Rattle.i3c_step.specs.Step.{is_too_long}
use Rattle.i3c_bus.specs.declared.hand.Hand.{Hand}
use Rattle.i3c_bus.specs.Calls.{Carries}
use Rattle.i3c_bus.specs.Wire.{IsWritePart}
use Rattle.i3c_bus.proofs.ToAll.{begun_uncut}
use Rattle.i3c_bus.proofs.Transfers.{alike_serves, not_too_long, transferred, write_before, write_free, writes_leave}
use Rattle.i3c_bus.proofs.bus.Bus.write.Goals as goal

pub write_part-answer-requires-clause-left : goal.write_part-answer-requires-clause-left
write_part-answer-requires-clause-left g c =
    begun_uncut c.args.self.now.state c.begin_frame.new.self.state c.args.cuts.now c.in-Ok.start.served c.in-Ok.ensures.begins.0 c.in-Ok.ensures.begins.1 (sym c.cuts_active.ensures ∙ c.if-cuts_active.false)

pub returns-clause-carried : goal.returns-clause-carried
returns-clause-carried g c =
    let old : State = c.args.self.now.state in
    let mid : State = c.begin_frame.new.self.state in
    let bytes : List ℕ = c.args.bytes.now in
    let served : Served = c.in-Ok.start.served in
    let answer : Answer = c.write_part-answer.result in
    let begins = c.in-Ok.ensures.begins in
    let short : length c.args.bytes.now ≤ 16 = omega (arith, c.if-bytes-most.false, c.get-most.ensures.few) in
    let kept : take WRITE_KEPT c.args.bytes.now ≡ c.args.bytes.now = take_all 17 c.args.bytes.now (omega (arith, short)) in
    let fits : is_too_long old c.args.to bytes ≡ false = not_too_long old c.args.to bytes c.get-most.result (c.get-most.ensures.same ∙ c.transfer_length.ensures) (omega (arith, c.if-bytes-most.false)) in
    let part = c.write_part-answer.ensures.told in
    let told : Tells g.T.Tap.note_gives c.begin_frame.new.tap c.write_part-answer.new.tap (IsWritePart old c.args.cuts.now c.args.to bytes answer c.in-Ok.start.bits) =
    (part.0, part.1, write_before old mid c.args.cuts.now c.args.to bytes answer c.in-Ok.start.bits part.0 (alike_serves old (given_for served) _ served mid (begins.1.serves 0)) part.2) in
    subst (λ (bs : List ℕ). Carries c.args.self.now c.write_part-answer.new.self (Event.WriteTo c.args.to (record { items = bs }) (given_for served) c.args.cuts.now) (Reply.Framed (record { served = served; answer = answer })) (Hand.Role c.args.role.now)
    (Tells g.T.Tap.note_gives c.args.tap.now c.write_part-answer.new.tap)) (sym kept)
    (transferred g.T.Tap.note_gives c.args.tap.now c.begin_frame.new.tap c.write_part-answer.new.tap c.args.self.now c.begin_frame.new.self c.write_part-answer.new.self
    (Event.WriteTo c.args.to (record { items = bytes }) (given_for served) c.args.cuts.now) c.args.cuts.now served answer begins.0 c.in-Ok.start.bits (write_bits bytes answer) c.args.role.now (Writes c.args.to bytes answer)
    (IsWritePart old c.args.cuts.now c.args.to bytes answer)
    (write_free old c.args.cuts.now c.args.to bytes c.requires.fits.1 (sym c.cuts_active.ensures ∙ c.if-cuts_active.false) fits (sym c.is_no_partner.ensures ∙ c.if-is_no_partner.false))
    (λ frame. (record { served = served; answer = answer }, refl, frame)) (λ symbols w. w) (λ lost done h. writes_leave c.args.to bytes answer lost mid done h)
    c.requires.fits begins.1 begins.2 begins.3 told c.write_part-answer.ensures.writes c.in-Ok.ensures.room c.write_part-answer.ensures.room)
