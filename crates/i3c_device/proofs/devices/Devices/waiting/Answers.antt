use Rattle.std.proofs.Common.{◌∙◌, ap, sym}
use Rattle.i3c_device.specs.Holding.{waiting_in}
use Rattle.i3c_device.proofs.SeenWalks.{asked_seen, waiting_alike}
use Rattle.i3c_device.proofs.devices.Devices.waiting.Goals as goal

pub returns : goal.returns
returns c =
    c.waiting_in.ensures
    ∙ (ap waiting_in c.at.ensures.place ∙ sym (asked_seen waiting_in c.self.inside.enabled c.self.inside.occupants c.args.self.now c.args.slot c.self.view_is waiting_alike))
