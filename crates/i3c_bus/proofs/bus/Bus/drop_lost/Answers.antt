-- Devices that are gone leave a sound bus.
use Rattle.std.proofs.Common.{◌≡◌, false, List, Option, subst, sym}
use Rattle.i3c_base.specs.Cutting.{lost_by}
use Rattle.i3c_base.specs.State.{Device, Held}
use Rattle.i3c_bus.specs.Parts.{state_of}
use Rattle.i3c_step.specs.Sound.{IsSound}
use Rattle.i3c_step.proofs.Soundness.{sound_emptied}
use Rattle.i3c_bus.proofs.Owning.{KeepsList, copied_still, keeps_emptied}
use Rattle.i3c_bus.proofs.Seen.{seen}
use Rattle.i3c_bus.proofs.bus.Bus.drop_lost.Goals as goal

pub invariant_of-self : goal.invariant_of-self
invariant_of-self c = record {
  sound = subst (λ (devices : List (Option Device)). IsSound (state_of devices c.self.inside.raised c.self.inside.active c.self.inside.table c.self.inside.legacy c.self.inside.in_session c.self.inside.records.items)) (sym c.drop_lost.ensures)
      (sound_emptied (lost_by c.args.cuts.now c.args.last) (state_of c.self.inside.devices c.self.inside.raised c.self.inside.active c.self.inside.table c.self.inside.legacy c.self.inside.in_session c.self.inside.records.items) (subst (λ (h : Held). lost_by c.args.cuts.now c.args.last h.state.active ≡ false) (sym c.self.view_is) c.requires) c.self.invariant.sound);
  covered = c.self.invariant.covered;
  copied = copied_still (seen c.self.inside) _ c.self.inside.list
      (subst (λ (devices : List (Option Device)). KeepsList (seen c.self.inside) (state_of devices c.self.inside.raised c.self.inside.active c.self.inside.table c.self.inside.legacy c.self.inside.in_session c.self.inside.records.items)) (sym c.drop_lost.ensures)
      (keeps_emptied (lost_by c.args.cuts.now c.args.last) (seen c.self.inside) (subst (λ (h : Held). lost_by c.args.cuts.now c.args.last h.state.active ≡ false) (sym c.self.view_is) c.requires))) c.self.invariant.copied;
}
