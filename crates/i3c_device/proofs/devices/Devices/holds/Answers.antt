use Rattle.std.proofs.Common.{◌∙◌, ap}
use Rattle.i3c_device.specs.Sets.{has}
use Rattle.i3c_device.proofs.SeenWalks.{held_seen}
use Rattle.i3c_device.proofs.devices.Devices.holds.Goals as goal

pub returns : goal.returns
returns c =
    c.has.ensures
    ∙ (ap (has c.marks.result.now.present) c.index.ensures.same
    ∙ held_seen c.self.inside.enabled c.self.inside.occupants c.args.self.now c.marks.result.now.present c.args.slot c.self.view_is c.marks.ensures.marks.present c.index.ensures.in_range)
