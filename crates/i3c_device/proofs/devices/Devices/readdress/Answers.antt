use Rattle.std.proofs.Common.{option_map, refl}
use Rattle.i3c_base.specs.Frames.{readdressed}
use Rattle.i3c_device.specs.Walks.{readdressed_at}
use Rattle.i3c_device.proofs.Blindness.{blind_readdress}
use Rattle.i3c_device.proofs.SeenLaws.{narrowed_seen}
use Rattle.i3c_device.proofs.devices.Devices.readdress.Goals as goal

pub returns : goal.returns
returns c =
    narrowed_seen c.self.inside.enabled (λ s place. option_map (readdressed c.args.address) place) (readdressed_at c.args.slots c.args.address) c.args.slots c.self.inside.occupants c.each.new.self c.args.self.now
    c.each.ensures.slots (blind_readdress c.args.address) c.self.view_is c.each.ensures.changed (λ s l. refl)
