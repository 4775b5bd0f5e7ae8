use Rattle.std.proofs.Common.{option_map, refl}
use Rattle.i3c_base.specs.Round.{winner}
use Rattle.i3c_device.specs.Walks.{taken_at}
use Rattle.i3c_device.proofs.Blindness.{blind_won}
use Rattle.i3c_device.proofs.SeenLaws.{narrowed_seen}
use Rattle.i3c_device.proofs.devices.Devices.take_address.Goals as goal

pub returns : goal.returns
returns c =
    narrowed_seen c.self.inside.enabled (λ s place. option_map (winner c.args.address) place) (taken_at c.args.winners c.args.address) c.args.winners c.self.inside.occupants c.each.new.self c.args.self.now c.each.ensures.slots
    (blind_won c.args.address) c.self.view_is c.each.ensures.changed (λ s l. refl)
