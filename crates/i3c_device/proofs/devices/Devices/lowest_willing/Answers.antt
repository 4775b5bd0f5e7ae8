use Rattle.std.proofs.Common.{◌∙◌, ◌&&◌, ap, not}
use Rattle.i3c_base.specs.Cutting.{lost_by}
use Rattle.i3c_device.specs.Sets.{has}
use Rattle.i3c_device.proofs.SeenWalks.{willing_seen}
use Rattle.i3c_device.proofs.devices.Devices.lowest_willing.Goals as goal

pub returns : goal.returns
returns c =
    willing_seen c.self.inside.enabled c.self.inside.occupants c.args.self.now c.args.active c.args.address c.marks.result.now.present c.without-left.result (lost_by c.args.cuts.now c.args.last) c.lowest.result
    c.marks.ensures.slots c.self.view_is c.marks.ensures.marks.present
    (λ s l. c.without-left.ensures s l ∙ ap (λ b. has c.marks.result.now.present s && not b) (c.lost_slots.ensures s l)) c.lowest.ensures
