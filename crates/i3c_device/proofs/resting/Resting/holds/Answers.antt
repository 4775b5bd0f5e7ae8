use Rattle.std.proofs.Common.{◌∙◌, ap}
use Rattle.i3c_device.specs.Sets.{has}
use Rattle.i3c_device.proofs.SeenWalks.{held_seen}
use Rattle.i3c_device.proofs.resting.Resting.holds.Goals as goal

pub returns : goal.returns
returns c =
    c.has.ensures
    ∙ (ap (has c.present.result) c.index.ensures.same
    ∙ held_seen c.self.inside.enabled c.self.inside.kept c.args.self.now c.present.result c.args.slot c.self.view_is c.present.ensures.present c.index.ensures.in_range)
