use Rattle.std.proofs.Common.{option_map, refl}
use Rattle.i3c_base.specs.Frames.{limited}
use Rattle.i3c_device.specs.Walks.{limited_at}
use Rattle.i3c_device.proofs.Blindness.{blind_limit}
use Rattle.i3c_device.proofs.SeenLaws.{narrowed_seen}
use Rattle.i3c_device.proofs.devices.Devices.limit.Goals as goal

pub returns : goal.returns
returns c =
    narrowed_seen c.self.inside.enabled (λ s place. option_map (limited c.args.way c.args.most) place) (limited_at c.args.slots c.args.way c.args.most) c.args.slots c.self.inside.occupants c.each.new.self c.args.self.now
    c.each.ensures.slots (blind_limit c.args.way c.args.most) c.self.view_is c.each.ensures.changed (λ s l. refl)
