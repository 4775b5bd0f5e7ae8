use Rattle.std.proofs.Common.{◌∙◌, ap, sym}
use Rattle.i3c_device.specs.Holding.{identity_in}
use Rattle.i3c_device.proofs.SeenWalks.{asked_seen, identity_alike}
use Rattle.i3c_device.proofs.devices.Devices.identity.Goals as goal

pub returns : goal.returns
returns c =
    c.identity_in.ensures
    ∙ (ap identity_in c.at.ensures.place ∙ sym (asked_seen identity_in c.self.inside.enabled c.self.inside.occupants c.args.self.now c.args.slot c.self.view_is identity_alike))
