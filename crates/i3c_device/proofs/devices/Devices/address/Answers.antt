use Rattle.std.proofs.Common.{◌∙◌, ap, sym}
use Rattle.i3c_device.specs.Holding.{address_in}
use Rattle.i3c_device.proofs.SeenWalks.{asked_seen, address_alike}
use Rattle.i3c_device.proofs.devices.Devices.address.Goals as goal

pub returns : goal.returns
returns c =
    c.address_in.ensures
    ∙ (ap address_in c.at.ensures.place ∙ sym (asked_seen address_in c.self.inside.enabled c.self.inside.occupants c.args.self.now c.args.slot c.self.view_is address_alike))
