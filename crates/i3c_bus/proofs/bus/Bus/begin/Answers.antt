-- What was read of the first request, as the beginning of a frame.
use Rattle.std.proofs.Common.{◌≡◌, ◌∙◌, ◌↔◌, ℕ, true, length, ap, refl, subst, sym}
use Rattle.i3c_base.specs.Cutting.{lost_by}
use Rattle.i3c_base.specs.State.{Held, State, with_active}
use Rattle.i3c_base.specs.declared.requests.Served.{Served}
use Rattle.i3c_ibi.specs.Policies.{Decides}
use Rattle.i3c_ibi.specs.Serving.{IsServing, served_as}
use Rattle.i3c_base.specs.Serve.{given_for}
use Rattle.i3c_base.specs.Frames.{AnyLeftIn}
use Rattle.i3c_bus.specs.Beginning.{Begins}
use Rattle.i3c_ibi.specs.Wire.{begun}
use Rattle.i3c_bus.specs.Wire.{IsBegun}
use Rattle.i3c_bus.proofs.Beginning.{begins_by, begun_by, fits_table}
use Rattle.i3c_bus.proofs.Listing.{serves_current}
use Rattle.i3c_bus.proofs.Owning.{copied_still}
use Rattle.i3c_bus.proofs.Seen.{seen}
use Rattle.i3c_step.proofs.Soundness.{sound_serves}
use Rattle.i3c_bus.proofs.bus.Bus.begin.Goals as goal

pub invariant_of-self : goal.invariant_of-self
invariant_of-self g c =
    let active : c.self.inside.active ≡ c.active-active.result = ap (λ (h : Held). h.state.active) c.self.view_is ∙ sym c.active-active.ensures in
    let serving : IsServing (seen c.self.inside) c.args.cuts.now c.serve-reading.result c.serve-reading.new.devices =
    c.serve-reading.ensures.serves (seen c.self.inside) (refl, active) refl (fits_table (seen c.self.inside) c.self.invariant.sound) in
    let begins = begins_by (seen c.self.inside) c.args.cuts.now c.serve-reading.result c.serve-reading.new.devices c.record_due-served.new.records.items c.record_due-served.result serving
    c.record_due-served.ensures.served c.record_due-served.ensures.items in
    record {
      sound = sound_serves (seen c.self.inside) (given_for c.record_due-served.result) _ c.record_due-served.result _ (begins.serves 0) c.self.invariant.sound;
      covered = c.self.invariant.covered;
      copied = copied_still (seen c.self.inside) _ c.self.inside.list (serves_current (seen c.self.inside) (given_for c.record_due-served.result) _ c.record_due-served.result _ (begins.serves 0)) c.self.invariant.copied;
    }

pub returns-clause-begins : goal.returns-clause-begins
returns-clause-begins g c =
    let active : c.self.inside.active ≡ c.active-active.result = ap (λ (h : Held). h.state.active) c.self.view_is ∙ sym c.active-active.ensures in
    let serving : IsServing (seen c.self.inside) c.args.cuts.now c.serve-reading.result c.serve-reading.new.devices =
    c.serve-reading.ensures.serves (seen c.self.inside) (refl, active) refl (fits_table (seen c.self.inside) c.self.invariant.sound) in
    let begins = begins_by (seen c.self.inside) c.args.cuts.now c.serve-reading.result c.serve-reading.new.devices c.record_due-served.new.records.items c.record_due-served.result serving
    c.record_due-served.ensures.served c.record_due-served.ensures.items in
    let new : State = record (seen c.self.inside) { devices = c.serve-reading.new.devices; records = c.record_due-served.new.records.items } in
    subst (λ (h : Held). Begins h.state c.args.cuts.now c.record_due-served.result c.word_bits-bits.result new) c.self.view_is
    (subst (λ (bits : ℕ). Begins (seen c.self.inside) c.args.cuts.now c.record_due-served.result bits new) (sym c.word_bits-bits.ensures) begins)

pub returns-clause-asks : goal.returns-clause-asks
returns-clause-asks g c =
    let active : c.self.inside.active ≡ c.active-active.result = ap (λ (h : Held). h.state.active) c.self.view_is ∙ sym c.active-active.ensures in
    subst (λ (s : Served). Decides g.P.Policy.verdict_gives c.args.policy.now c.serve-reading.new.policy c.args.self.now.state (given_for s)) (sym c.record_due-served.ensures.served)
    (subst (λ (h : Held). Decides g.P.Policy.verdict_gives c.args.policy.now c.serve-reading.new.policy h.state (given_for (served_as (length c.self.inside.records.items) c.serve-reading.result))) c.self.view_is
    (c.serve-reading.ensures.asks (seen c.self.inside) (refl, active) refl))

pub returns-clause-told : goal.returns-clause-told
returns-clause-told g c =
    let active : c.self.inside.active ≡ c.active-active.result = ap (λ (h : Held). h.state.active) c.self.view_is ∙ sym c.active-active.ensures in
    let serving : IsServing (seen c.self.inside) c.args.cuts.now c.serve-reading.result c.serve-reading.new.devices =
    c.serve-reading.ensures.serves (seen c.self.inside) (refl, active) refl (fits_table (seen c.self.inside) c.self.invariant.sound) in
    let heard : (c.is_heard-ack.result ≡ true) ↔ AnyLeftIn (with_active c.self.inside.devices c.self.inside.active) (lost_by c.args.cuts.now 0) =
    subst (λ (a : ℕ). (c.is_heard-ack.result ≡ true) ↔ AnyLeftIn (with_active c.self.inside.devices a) (lost_by c.args.cuts.now 0)) (sym active) c.is_heard-ack.ensures in
    let new : State = record (seen c.self.inside) { devices = c.serve-reading.new.devices; records = c.record_due-served.new.records.items } in (
      begun c.serve-reading.result c.is_heard-ack.result,
      c.tell_reading.ensures,
      subst (λ (h : Held). IsBegun h.state c.args.cuts.now c.record_due-served.result new (begun c.serve-reading.result c.is_heard-ack.result)) c.self.view_is
          (begun_by (seen c.self.inside) c.args.cuts.now c.serve-reading.result c.serve-reading.new.devices c.record_due-served.new.records.items c.record_due-served.result c.is_heard-ack.result serving
          c.record_due-served.ensures.served c.record_due-served.ensures.items heard),
    )
