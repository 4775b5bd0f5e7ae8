use Rattle.std.proofs.Common.{◌∙◌, ap, sym}
use Rattle.i3c_device.specs.Holding.{front_in}
use Rattle.i3c_device.proofs.SeenWalks.{asked_seen, front_alike}
use Rattle.i3c_device.proofs.devices.Devices.front.Goals as goal

pub returns : goal.returns
returns c =
    c.front_in.ensures
    ∙ (ap front_in c.at.ensures.place ∙ sym (asked_seen front_in c.self.inside.enabled c.self.inside.occupants c.args.self.now c.args.slot c.self.view_is front_alike))
