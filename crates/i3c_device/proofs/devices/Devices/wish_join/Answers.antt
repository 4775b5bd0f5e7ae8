use Rattle.std.proofs.Common.{option_map}
use Rattle.i3c_device.proofs.Blindness.{blind_join}
use Rattle.i3c_device.proofs.SeenLaws.{updated_seen}
use Rattle.i3c_device.proofs.devices.Devices.wish_join.Goals as goal
use Rattle.i3c_base.specs.Local.{wishing_join}

pub returns : goal.returns
returns c =
    updated_seen c.self.inside.enabled (λ s place. option_map wishing_join place) c.self.inside.occupants c.apply.new.self c.args.self.now c.args.slot blind_join c.self.view_is c.apply.ensures.changed
