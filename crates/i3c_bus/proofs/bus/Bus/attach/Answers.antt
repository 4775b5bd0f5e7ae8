-- A device that enters an empty slot leaves a sound bus.
use Rattle.std.proofs.Common.{◌≡◌, List, Option, subst, sym, ap, ◌∙◌, set, Some}
use Rattle.i3c_base.specs.State.{Board, Device, attached, fixed_of}
use Rattle.i3c_bus.specs.Parts.{state_of}
use Rattle.i3c_step.specs.Sound.{IsSound}
use Rattle.i3c_bus.proofs.Locally.{none_there, sound_attached}
use Rattle.i3c_bus.proofs.Owning.{KeepsList, copied_still, keeps_put}
use Rattle.i3c_bus.proofs.Seen.{seen}
use Rattle.i3c_bus.proofs.bus.Bus.attach.Goals as goal

-- the device has the static address that the table's declarations have for its identity
fixed : (c : goal.After-put) → c.device-device.result ≡ attached (fixed_of c.self.inside.table.declared c.args.setup.identity) c.args.setup
fixed c = c.device-device.ensures ∙ ap (λ (b : Board). attached (fixed_of b.declared c.args.setup.identity) c.args.setup) c.legacies.ensures

pub invariant_of-self : goal.invariant_of-self
invariant_of-self c = record {
  sound = subst (λ (devices : List (Option Device)). IsSound (state_of devices c.self.inside.raised c.self.inside.active c.self.inside.table c.self.inside.legacy c.self.inside.in_session c.self.inside.records.items)) (sym (c.put.ensures ∙ ap (λ (d : Device). set c.self.inside.devices c.args.slot (Some d)) (fixed c)))
      (sound_attached c.args.slot c.args.setup (state_of c.self.inside.devices c.self.inside.raised c.self.inside.active c.self.inside.table c.self.inside.legacy c.self.inside.in_session c.self.inside.records.items) (none_there _ (sym c.holds.ensures ∙ c.if-holds.false)) c.self.invariant.sound);
  covered = c.self.invariant.covered;
  copied = copied_still (seen c.self.inside) _ c.self.inside.list
      (subst (λ (devices : List (Option Device)). KeepsList (seen c.self.inside) (state_of devices c.self.inside.raised c.self.inside.active c.self.inside.table c.self.inside.legacy c.self.inside.in_session c.self.inside.records.items)) (sym (c.put.ensures ∙ ap (λ (d : Device). set c.self.inside.devices c.args.slot (Some d)) (fixed c)))
      (keeps_put c.args.slot (attached (fixed_of c.self.inside.table.declared c.args.setup.identity) c.args.setup) (seen c.self.inside) (none_there _ (sym c.holds.ensures ∙ c.if-holds.false)) c.self.invariant.sound.active)) c.self.invariant.copied;
}
