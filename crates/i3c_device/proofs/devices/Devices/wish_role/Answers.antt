use Rattle.std.proofs.Common.{option_map}
use Rattle.i3c_device.proofs.Blindness.{blind_role}
use Rattle.i3c_device.proofs.SeenLaws.{updated_seen}
use Rattle.i3c_device.proofs.devices.Devices.wish_role.Goals as goal
use Rattle.i3c_base.specs.Local.{wishing_role}

pub returns : goal.returns
returns c =
    updated_seen c.self.inside.enabled (λ s place. option_map wishing_role place) c.self.inside.occupants c.apply.new.self c.args.self.now c.args.slot blind_role c.self.view_is c.apply.ensures.changed
