-- The party that took the bytes is told, and devices cut by then are gone.
use Rattle.std.proofs.Common.{◌≡◌, ◌∙◌, ◌+◌, ℕ, ap, refl, subst, sym}
use Rattle.i3c_base.specs.declared.answers.Answer.{Answer}
use Rattle.i3c_base.specs.Cutting.{lost_by}
use Rattle.i3c_base.specs.Frames.{Writes, write_bits}
use Rattle.i3c_base.specs.Serve.{emptied}
use Rattle.i3c_base.specs.State.{HasDevices, Held, State}
use Rattle.i3c_bus.proofs.Seen.{has_devices, seen, seen_devices}
use Rattle.i3c_bus.proofs.Transfers.{whole_writes}
use Rattle.i3c_bus.proofs.bus.Bus.write_part.Goals as goal

pub invariant_of-self : goal.invariant_of-self
invariant_of-self g c =
    let same : HasDevices (seen c.self.inside) c.self.inside.devices c.active-active.result = seen_devices _ _ _ c.self.view_is c.active-active.ensures in
    whole_writes c.self.inside.table c.self.inside.list c.args.to c.args.bytes.now _ _ (seen c.self.inside) _ (c.write-written.ensures.writes (seen c.self.inside) same refl) c.self.invariant

pub returns-clause-told : goal.returns-clause-told
returns-clause-told g c =
    let same : HasDevices c.args.self.now.state c.self.inside.devices c.active-active.result = has_devices _ _ _ c.self.view_is c.active-active.ensures in
    let legacy : c.args.self.now.state.legacy ≡ c.self.inside.legacy = ap (λ (h : Held). h.state.legacy) (sym c.self.view_is) in (
      c.tell_write.ensures.0,
      c.tell_write.ensures.1,
      (
        c.write-written.result,
        sym c.answer-answer.ensures,
        c.write-written.ensures.acknowledged c.args.self.now.state same legacy,
        c.write-written.ensures.written c.args.self.now.state legacy,
        c.tell_write.ensures.2,
      ),
    )

pub returns-clause-writes : goal.returns-clause-writes
returns-clause-writes g c =
    let same : HasDevices (seen c.self.inside) c.self.inside.devices c.active-active.result = seen_devices _ _ _ c.self.view_is c.active-active.ensures in
    let done : State = record (seen c.self.inside) { devices = c.write-written.new.devices; legacy = c.write-written.new.legacy } in
    let by : Answer → Type 0 = λ (a : Answer). Writes c.args.to c.args.bytes.now a (lost_by c.args.cuts.now (c.args.bits_before + write_bits c.args.bytes.now a)) (seen c.self.inside) done in (
      done,
      subst (λ (h : Held). Writes c.args.to c.args.bytes.now c.answer-answer.result (lost_by c.args.cuts.now (c.args.bits_before + write_bits c.args.bytes.now c.answer-answer.result)) h.state done)
          c.self.view_is (subst by (sym c.answer-answer.ensures) (c.write-written.ensures.writes (seen c.self.inside) same refl)),
      c.drop_lost.ensures.state ∙ ap (λ (n : ℕ). emptied (lost_by c.args.cuts.now (c.args.bits_before + n)) done) c.write_bits.ensures,
    )
