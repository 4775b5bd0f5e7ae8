use Rattle.std.proofs.Common.{option_map}
use Rattle.i3c_base.specs.Serve.{without_role}
use Rattle.i3c_device.proofs.Blindness.{blind_no_role}
use Rattle.i3c_device.proofs.SeenLaws.{updated_seen}
use Rattle.i3c_device.proofs.devices.Devices.lose_role_wish.Goals as goal

pub returns : goal.returns
returns c =
    updated_seen c.self.inside.enabled (λ s place. option_map without_role place) c.self.inside.occupants c.apply.new.self c.args.self.now c.args.slot blind_no_role c.self.view_is c.apply.ensures.changed
