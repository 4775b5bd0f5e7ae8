-- Each device that the command reaches has the maximum length, and devices cut by then are gone.
use Rattle.std.proofs.Common.{◌∙◌, ◌+◌, ℕ, ap, subst, sym}
use Rattle.i3c_base.specs.declared.answers.Answer.{Answer}
use Rattle.i3c_base.specs.Cutting.{lost_by}
use Rattle.i3c_base.specs.Frames.{SetsLength, length_bits}
use Rattle.i3c_base.specs.Serve.{emptied}
use Rattle.i3c_base.specs.State.{HasDevices, Held, State}
use Rattle.i3c_bus.specs.Wire.{IsAnswered}
use Rattle.i3c_bus.proofs.Heard.{answered_by}
use Rattle.i3c_bus.proofs.Lengths.{whole_lengths}
use Rattle.i3c_bus.proofs.Seen.{seen, seen_devices}
use Rattle.i3c_bus.proofs.bus.Bus.length_part.Goals as goal

pub invariant_of-self : goal.invariant_of-self
invariant_of-self g c =
    let same : HasDevices (seen c.self.inside) c.self.inside.devices c.active-active.result = seen_devices _ _ _ c.self.view_is c.active-active.ensures in
    whole_lengths c.self.inside.table c.self.inside.list c.args.to c.args.way c.args.most _ _ (seen c.self.inside) _ (c.hear_length-heard.ensures.sets (seen c.self.inside) same) c.self.invariant

pub returns-clause-sets : goal.returns-clause-sets
returns-clause-sets g c =
    let same : HasDevices (seen c.self.inside) c.self.inside.devices c.active-active.result = seen_devices _ _ _ c.self.view_is c.active-active.ensures in
    let done : State = record (seen c.self.inside) { devices = c.hear_length-heard.new.devices } in
    let by : Answer → Type 0 = λ (a : Answer). SetsLength c.args.to c.args.way c.args.most a (lost_by c.args.cuts.now (c.args.bits_before + length_bits c.args.to a)) (seen c.self.inside) done in (
      done,
      subst (λ (h : Held). SetsLength c.args.to c.args.way c.args.most c.answer_of-answer.result (lost_by c.args.cuts.now (c.args.bits_before + length_bits c.args.to c.answer_of-answer.result)) h.state done)
          c.self.view_is (subst by (sym c.answer_of-answer.ensures) (c.hear_length-heard.ensures.sets (seen c.self.inside) same)),
      c.drop_lost.ensures.state ∙ ap (λ (n : ℕ). emptied (lost_by c.args.cuts.now (c.args.bits_before + n)) done) c.length_bits.ensures,
    )

pub returns-clause-answered : goal.returns-clause-answered
returns-clause-answered g c =
    let same : HasDevices (seen c.self.inside) c.self.inside.devices c.active-active.result = seen_devices _ _ _ c.self.view_is c.active-active.ensures in
    subst (λ (h : Held). IsAnswered h.state c.args.cuts.now c.args.to c.args.bits_before c.answer_of-answer.result) c.self.view_is
    (subst (λ (a : Answer). IsAnswered (seen c.self.inside) c.args.cuts.now c.args.to c.args.bits_before a) (sym c.answer_of-answer.ensures)
    (answered_by (seen c.self.inside) c.args.cuts.now c.args.to c.args.bits_before c.hear_length-heard.result (λ a e. c.hear_length-heard.ensures.answered (seen c.self.inside) a same e)))
