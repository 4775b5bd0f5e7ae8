-- The devices with the old address have the new one, and devices cut by then are gone.
use Rattle.std.proofs.Common.{◌∙◌, ◌+◌, ℕ, Some, ap, subst, sym}
use Rattle.i3c_base.specs.declared.answers.Answer.{Answer}
use Rattle.i3c_base.specs.Cutting.{lost_by}
use Rattle.i3c_base.specs.Frames.{SetsNew, kinds_bits}
use Rattle.i3c_base.specs.Serve.{emptied}
use Rattle.i3c_base.specs.State.{State}
use Rattle.i3c_bus.specs.Wire.{IsNewPart}
use Rattle.i3c_bus.proofs.Settings.{done_where, new_sets}
use Rattle.i3c_bus.proofs.bus.Bus.new_part.Goals as goal

pub returns-clause-sets : goal.returns-clause-sets
returns-clause-sets g c =
    let done : State = c.give_new-heard.new.self.state in (
      done,
      subst (λ (a : Answer). SetsNew c.args.old c.args.new a (lost_by c.args.cuts.now (c.args.bits_before + kinds_bits (Some c.args.old) a)) c.args.self.now.state done) (sym c.answer_of-answer.ensures)
          (new_sets c.args.self.now.state done c.args.old c.args.new c.args.cuts.now c.args.bits_before c.give_new-heard.result c.give_new-heard.ensures.given),
      c.drop_lost.ensures.state ∙ ap (λ (n : ℕ). emptied (lost_by c.args.cuts.now (c.args.bits_before + n)) done) c.kinds_bits.ensures,
    )

pub returns-clause-told : goal.returns-clause-told
returns-clause-told g c =
    let wire = c.tell_setting.ensures in
    let answered = done_where c.give_new-heard.result c.give_new-heard.ensures.answered in (
      wire.0,
      wire.1,
      subst (λ (a : Answer). IsNewPart c.args.self.now.state c.args.cuts.now c.args.old c.args.new a c.args.bits_before wire.0) (sym c.answer_of-answer.ensures) (wire.2, answered),
    )
