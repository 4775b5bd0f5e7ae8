-- A device that wishes to join, or mayn't, leaves a sound bus.
use Rattle.std.proofs.Common.{refl}
use Rattle.i3c_bus.proofs.Locally.{sound_asked}
use Rattle.i3c_bus.proofs.Owning.{copied_still, keeps_asked}
use Rattle.i3c_bus.proofs.Seen.{seen}
use Rattle.i3c_bus.proofs.bus.Bus.ask_join.Goals as goal
use Rattle.i3c_base.specs.Local.{wishing_join}

pub invariant_of-self : goal.invariant_of-self
invariant_of-self c = record {
  sound = sound_asked c.ask.result c.args.slot c.ask.new.devices (seen c.self.inside) c.ask.ensures.wishes c.ask.ensures.unchanged c.self.invariant.sound;
  covered = c.self.invariant.covered;
  copied = copied_still (seen c.self.inside) _ c.self.inside.list (keeps_asked c.ask.result c.args.slot wishing_join c.ask.new.devices (seen c.self.inside) (λ d. refl) c.ask.ensures.wishes c.ask.ensures.unchanged) c.self.invariant.copied;
}
