-- Each device that the command reaches hears it, and devices cut by then are gone.
use Rattle.std.proofs.Common.{◌∙◌, ◌+◌, ℕ, ap, subst, sym}
use Rattle.i3c_base.specs.declared.answers.Answer.{Answer}
use Rattle.i3c_base.specs.Cutting.{lost_by}
use Rattle.i3c_base.specs.Frames.{Rekinds, changed_kinds, kinds_bits}
use Rattle.i3c_base.specs.Serve.{emptied}
use Rattle.i3c_base.specs.State.{HasDevices, Held, State}
use Rattle.i3c_events.specs.Hearing.{answer_of}
use Rattle.i3c_bus.specs.Wire.{IsAnswered}
use Rattle.i3c_bus.proofs.Heard.{answered_by}
use Rattle.i3c_bus.proofs.Owning.{copied_still, keeps_rekinds}
use Rattle.i3c_bus.proofs.Seen.{seen, seen_devices}
use Rattle.i3c_step.proofs.Soundness.{sound_rekinds}
use Rattle.i3c_bus.proofs.bus.Bus.command_kinds.Goals as goal

pub invariant_of-self : goal.invariant_of-self
invariant_of-self g c =
    let same : HasDevices (seen c.self.inside) c.self.inside.devices c.active-active.result = seen_devices _ _ _ c.self.view_is c.active-active.ensures in record {
      sound = sound_rekinds c.args.to (changed_kinds c.args.change c.args.kinds) (answer_of c.hear_kinds-heard.result) _ (seen c.self.inside) _ (c.hear_kinds-heard.ensures.rekinds (seen c.self.inside) same)
          c.self.invariant.sound;
      covered = c.self.invariant.covered;
      copied = copied_still (seen c.self.inside) _ c.self.inside.list
          (keeps_rekinds c.args.to (changed_kinds c.args.change c.args.kinds) (answer_of c.hear_kinds-heard.result) _ (seen c.self.inside) _ (c.hear_kinds-heard.ensures.rekinds (seen c.self.inside) same)) c.self.invariant.copied;
    }

pub returns-clause-rekinds : goal.returns-clause-rekinds
returns-clause-rekinds g c =
    let same : HasDevices (seen c.self.inside) c.self.inside.devices c.active-active.result = seen_devices _ _ _ c.self.view_is c.active-active.ensures in
    let done : State = record (seen c.self.inside) { devices = c.hear_kinds-heard.new.devices } in
    let by : Answer → Type 0 = λ (a : Answer). Rekinds c.args.to (changed_kinds c.args.change c.args.kinds) a (lost_by c.args.cuts.now (c.args.bits_before + kinds_bits c.args.to a)) (seen c.self.inside) done in (
      done,
      subst (λ (h : Held). Rekinds c.args.to (changed_kinds c.args.change c.args.kinds) c.answer_of-answer.result (lost_by c.args.cuts.now (c.args.bits_before + kinds_bits c.args.to c.answer_of-answer.result)) h.state done)
          c.self.view_is (subst by (sym c.answer_of-answer.ensures) (c.hear_kinds-heard.ensures.rekinds (seen c.self.inside) same)),
      c.drop_lost.ensures.state
          ∙ ap (λ (n : ℕ). emptied (lost_by c.args.cuts.now (c.args.bits_before + n)) done) c.kinds_bits.ensures,
    )

pub returns-clause-answered : goal.returns-clause-answered
returns-clause-answered g c =
    let same : HasDevices (seen c.self.inside) c.self.inside.devices c.active-active.result = seen_devices _ _ _ c.self.view_is c.active-active.ensures in
    subst (λ (h : Held). IsAnswered h.state c.args.cuts.now c.args.to c.args.bits_before c.answer_of-answer.result) c.self.view_is
    (subst (λ (a : Answer). IsAnswered (seen c.self.inside) c.args.cuts.now c.args.to c.args.bits_before a) (sym c.answer_of-answer.ensures)
    (answered_by (seen c.self.inside) c.args.cuts.now c.args.to c.args.bits_before c.hear_kinds-heard.result (λ a e. c.hear_kinds-heard.ensures.answered (seen c.self.inside) a same e)))
