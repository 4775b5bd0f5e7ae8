use Rattle.std.proofs.Common.{◌∙◌, ap, sym}
use Rattle.i3c_device.specs.Holding.{byte_in}
use Rattle.i3c_device.proofs.SeenWalks.{asked_seen, byte_alike}
use Rattle.i3c_device.proofs.devices.Devices.answer_byte.Goals as goal

pub returns : goal.returns
returns c =
    c.byte_in.ensures
    ∙ (ap byte_in c.at.ensures.place ∙ sym (asked_seen byte_in c.self.inside.enabled c.self.inside.occupants c.args.self.now c.args.slot c.self.view_is byte_alike))
