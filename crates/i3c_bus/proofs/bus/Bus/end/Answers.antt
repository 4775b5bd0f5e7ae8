-- A session that is ended leaves a sound bus.
use Rattle.std.proofs.Common.{List, Option, subst, sym, false}
use Rattle.i3c_base.specs.State.{Device}
use Rattle.i3c_bus.specs.Parts.{state_of}
use Rattle.i3c_step.specs.Sound.{IsSound}
use Rattle.i3c_step.proofs.Soundness.{sound_ended}
use Rattle.i3c_bus.proofs.Owning.{KeepsList, copied_still, keeps_ended}
use Rattle.i3c_bus.proofs.Seen.{seen}
use Rattle.i3c_bus.proofs.bus.Bus.end.Goals as goal

pub invariant_of-self : goal.invariant_of-self
invariant_of-self c = record {
  sound = subst (λ (devices : List (Option Device)). IsSound (state_of devices c.self.inside.raised c.self.inside.active c.self.inside.table c.self.inside.legacy false c.self.inside.records.items)) (sym c.silence.ensures)
      (sound_ended (state_of c.self.inside.devices c.self.inside.raised c.self.inside.active c.self.inside.table c.self.inside.legacy c.self.inside.in_session c.self.inside.records.items) c.self.invariant.sound);
  covered = c.self.invariant.covered;
  copied = copied_still (seen c.self.inside) _ c.self.inside.list
      (subst (λ (devices : List (Option Device)). KeepsList (seen c.self.inside) (state_of devices c.self.inside.raised c.self.inside.active c.self.inside.table c.self.inside.legacy false c.self.inside.records.items)) (sym c.silence.ensures)
      (keeps_ended (seen c.self.inside))) c.self.invariant.copied;
}
