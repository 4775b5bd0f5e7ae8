-- A command that is carried out.
use Rattle.std.proofs.lemmas.Option.{same_Some}
use Rattle.std.proofs.Common.{◌≡◌, ◌∙◌, ◌+◌, ℕ, Option, Some, false, ap, subst, sym, arith}
use Rattle.i3c_base.specs.declared.answers.Answer.{Answer}
use Rattle.i3c_base.specs.declared.requests.Served.{Served}
use Rattle.i3c_base.specs.Cutting.{Lost}
use Rattle.i3c_base.specs.Frames.{Rekinds, changed_kinds, kinds_bits}
use Rattle.i3c_base.specs.Serve.{given_for, header_bits}
use Rattle.i3c_base.specs.State.{State}
use Rattle.i3c_bus.specs.declared.hand.Hand.{Hand}
use Rattle.i3c_bus.specs.Beginning.{LeavesBy}
use Rattle.i3c_step.specs.Step.{is_no_target}
use Rattle.i3c_frame.specs.Taps.{Tells}
use Rattle.i3c_events.specs.Wire.{IsKindsWire}
use Rattle.i3c_bus.proofs.Framing.{fits_left, frame_by, kinds_step, kinds_told, target_free, tells_frame}
use Rattle.i3c_bus.specs.Wire.{IsAnswered, IsKindsPart}
use Rattle.i3c_bus.proofs.Heard.{answered_before}
use Rattle.i3c_step.proofs.Slots.{Stands-rekinds, records_rekinds}
use Rattle.i3c_bus.proofs.ToAll.{begun_uncut}
use Rattle.i3c_bus.proofs.bus.Bus.change_kinds.Goals as goal
use Rattle.i3c_bus.proofs.bus.Bus.change_kinds.Goals.{in-Some+else-is_no_target, in_default}

pub returns-clause-carried : goal.returns-clause-carried
returns-clause-carried g c =
    let old : State = c.args.self.now.state in
    let served : Served = c.in-Ok.start.served in
    let answer : Answer = c.command_kinds-answer.result in
    let mid : State = c.begin_frame.new.self.state in
    let new : State = c.command_kinds-answer.new.self.state in
    let Own : Option ℕ → Lost → State → State → Type 0 = λ (to : Option ℕ). Rekinds to (changed_kinds c.args.change c.args.kinds) answer in
    let to : c.match-to.to ≡ c.args.to = elim c.match-to.branch [
      | in-Some+else-is_no_target w ↦ w.to-is ∙ sym w.in-Some.is
      | in_default w ↦ w.to-is
    ] in
    let there : (a : ℕ) → c.args.to ≡ Some a → is_no_target old a ≡ false = λ (a : ℕ) (e : c.args.to ≡ Some a). elim c.match-to.branch [
      | in-Some+else-is_no_target w ↦ subst (λ (k : ℕ). is_no_target old k ≡ false) (same_Some w.in-Some.address a (sym w.in-Some.is ∙ e)) (sym w.is_no_target.ensures ∙ w.if-is_no_target.false)
      | in_default w ↦ absurd (w.in_default.not-Some a e)
    ] in
    let begun = c.in-Ok.ensures.begins in
    let last : ℕ = c.in-Ok.start.bits + kinds_bits c.args.to answer in
    let leaves : LeavesBy c.args.cuts.now last (Own c.args.to) mid new =
    subst (λ (t : Option ℕ). LeavesBy c.args.cuts.now (c.in-Ok.start.bits + kinds_bits t answer) (Own t) mid new) to c.command_kinds-answer.ensures.rekinds in
    let wire = subst (λ (t : Option ℕ). Tells g.T.Tap.note_gives c.begin_frame.new.tap c.command_kinds-answer.new.tap (IsKindsWire c.args.change t c.args.kinds answer)) to c.command_kinds-answer.ensures.told in
    let answered : IsAnswered old c.args.cuts.now c.args.to (begun.0 + header_bits served) answer =
    answered_before old (given_for served) _ served mid c.args.cuts.now c.args.to (begun.0 + header_bits served) answer (begun.1.serves 0)
    (subst (λ (bits : ℕ). IsAnswered mid c.args.cuts.now c.args.to bits answer) begun.2
    (subst (λ (t : Option ℕ). IsAnswered mid c.args.cuts.now t c.in-Ok.start.bits answer) to c.command_kinds-answer.ensures.answered)) in
    let told : Tells g.T.Tap.note_gives c.begin_frame.new.tap c.command_kinds-answer.new.tap
    (IsKindsPart old c.args.cuts.now c.args.change c.args.to c.args.kinds answer (begun.0 + header_bits served)) = (wire.0, wire.1, (wire.2, answered)) in
    let same : new.records ≡ mid.records = ap (λ (st : State). st.records) leaves.2 ∙ records_rekinds c.args.to (changed_kinds c.args.change c.args.kinds) answer _ mid leaves.0 leaves.1 in record {
      step = kinds_step c.args.change old c.args.to c.args.kinds (given_for served) c.args.cuts.now served answer new
          (target_free old c.args.cuts.now c.args.to c.requires.fits.1 (sym c.cuts_active.ensures ∙ c.if-cuts_active.false) there)
          (frame_by old c.args.cuts.now served begun.0 (header_bits served + kinds_bits c.args.to answer) last (Own c.args.to) mid new begun.1 (omega (arith, begun.2)) leaves);
      told = kinds_told g.T.Tap.note_gives c.args.tap.now c.command_kinds-answer.new.tap c.args.change old c.args.to c.args.kinds (given_for served) c.args.cuts.now served answer new
          (tells_frame g.T.Tap.note_gives c.args.tap.now c.begin_frame.new.tap c.command_kinds-answer.new.tap old mid new c.args.cuts.now served begun.0 (IsKindsPart old c.args.cuts.now c.args.change c.args.to c.args.kinds answer)
          same begun.1 begun.3 told);
      fits = fits_left (Hand.Role c.args.role.now) old c.args.cuts.now served begun.0 last (Own c.args.to) mid new begun.1
          (λ lost done h. Stands-rekinds c.args.to (changed_kinds c.args.change c.args.kinds) answer lost mid done h) leaves c.requires.fits;
      room = record {
        enough = λ room short. cc;
        lasts = λ room none. c.command_kinds-answer.ensures.room ∙ c.in-Ok.ensures.room none;
      };
    }

pub command_kinds-answer-requires-clause-left : goal.command_kinds-answer-requires-clause-left
command_kinds-answer-requires-clause-left g c =
    begun_uncut c.args.self.now.state c.begin_frame.new.self.state c.args.cuts.now c.in-Ok.start.served c.in-Ok.ensures.begins.0 c.in-Ok.ensures.begins.1 (sym c.cuts_active.ensures ∙ c.if-cuts_active.false)
