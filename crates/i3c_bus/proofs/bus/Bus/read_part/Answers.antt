-- What was read is told.
use Rattle.std.proofs.Common.{◌≡◌, ◌∙◌, ◌+◌, ℕ, ap, subst, sym}
use Rattle.i3c_base.specs.declared.answers.Answer.{Answer}
use Rattle.i3c_base.specs.declared.datum.Direction.{Direction}
use Rattle.i3c_base.specs.Cutting.{lost_by}
use Rattle.i3c_base.specs.Frames.{Reads, read_bits, transfer_length}
use Rattle.i3c_base.specs.Serve.{emptied}
use Rattle.i3c_base.specs.State.{HasDevices, Held, State}
use Rattle.i3c_xfer.specs.Transfers.{read_answer}
use Rattle.i3c_bus.proofs.Seen.{has_devices}
use Rattle.i3c_bus.proofs.bus.Bus.read_part.Goals as goal

pub returns-clause-told : goal.returns-clause-told
returns-clause-told g c =
    let same : HasDevices c.args.self.now.state c.self.inside.devices c.active-active.result = has_devices _ _ _ c.self.view_is c.active-active.ensures in
    let legacy : c.args.self.now.state.legacy ≡ c.self.inside.legacy = ap (λ (h : Held). h.state.legacy) (sym c.self.view_is) in (
      c.tell_read.ensures.0,
      c.tell_read.ensures.1,
      (
        c.read-read.result,
        sym c.answer-answer.ensures,
        c.read-read.ensures.acknowledged c.args.self.now.state same legacy,
        c.read-read.ensures.read c.args.self.now.state same legacy,
        c.tell_read.ensures.2,
      ),
    )

pub returns-clause-reads : goal.returns-clause-reads
returns-clause-reads g c =
    let st : State = c.args.self.now.state in
    let same : HasDevices st c.self.inside.devices c.active-active.result = has_devices _ _ _ c.self.view_is c.active-active.ensures in
    let legacy : st.legacy ≡ c.self.inside.legacy = ap (λ (h : Held). h.state.legacy) (sym c.self.view_is) in
    let count : ℕ = transfer_length st Direction.Read c.args.from in
    let by : ℕ → Answer → Type 0 = λ (n : ℕ) (a : Answer). Reads c.args.from a (lost_by c.args.cuts.now (c.args.bits_before + n)) st st in
    let bits = c.read-read.ensures.bits st same legacy in (
      st,
      subst (λ (a : Answer). by (read_bits count a) a) (sym c.answer-answer.ensures)
          (subst (λ (n : ℕ). by n (read_answer c.args.from c.read-read.result)) bits (c.read-read.ensures.reads st same legacy)),
      c.drop_lost.ensures.state ∙ ap (λ (n : ℕ). emptied (lost_by c.args.cuts.now (c.args.bits_before + n)) st) (c.bits.ensures ∙ (bits ∙ ap (read_bits count) (sym c.answer-answer.ensures))),
    )
