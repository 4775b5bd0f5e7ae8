-- A device that drops off leaves a sound bus.
use Rattle.std.proofs.Common.{ℕ, ◌==◌, ◌∙◌, List, Option, ap, subst, sym}
use Rattle.i3c_base.specs.State.{Device, Held}
use Rattle.i3c_bus.specs.Parts.{state_of}
use Rattle.i3c_step.specs.Sound.{IsSound}
use Rattle.i3c_bus.proofs.Locally.{some_there, sound_dropped}
use Rattle.i3c_bus.proofs.Owning.{KeepsList, copied_still, keeps_dropped}
use Rattle.i3c_bus.proofs.Seen.{seen}
use Rattle.i3c_bus.proofs.bus.Bus.drop_off.Goals as goal

pub invariant_of-self : goal.invariant_of-self
invariant_of-self c = record {
  sound = subst (λ (devices : List (Option Device)). IsSound (state_of devices c.self.inside.raised c.self.inside.active c.self.inside.table c.self.inside.legacy c.self.inside.in_session c.self.inside.records.items)) (sym c.remove.ensures)
      (sound_dropped c.args.slot (state_of c.self.inside.devices c.self.inside.raised c.self.inside.active c.self.inside.table c.self.inside.legacy c.self.inside.in_session c.self.inside.records.items)
      (some_there _ (sym c.holds.ensures ∙ c.if-not-holds.false)) (ap (λ (k : ℕ). c.args.slot == k) (ap (λ (h : Held). h.state.active) c.self.view_is ∙ sym c.active.ensures) ∙ (sym c.eq.ensures ∙ c.if-eq.false)) c.self.invariant.sound);
  covered = c.self.invariant.covered;
  copied = copied_still (seen c.self.inside) _ c.self.inside.list
      (subst (λ (devices : List (Option Device)). KeepsList (seen c.self.inside) (state_of devices c.self.inside.raised c.self.inside.active c.self.inside.table c.self.inside.legacy c.self.inside.in_session c.self.inside.records.items)) (sym c.remove.ensures)
      (keeps_dropped c.args.slot (seen c.self.inside) (ap (λ (k : ℕ). c.args.slot == k) (ap (λ (h : Held). h.state.active) c.self.view_is ∙ sym c.active.ensures) ∙ (sym c.eq.ensures ∙ c.if-eq.false)))) c.self.invariant.copied;
}
