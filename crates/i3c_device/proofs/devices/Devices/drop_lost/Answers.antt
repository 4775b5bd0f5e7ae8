use Rattle.std.proofs.Common.{if◌then◌else◌, get_or, None, ap}
use Rattle.i3c_base.specs.Cutting.{lost_by}
use Rattle.i3c_base.specs.Serve.{left_at}
use Rattle.i3c_device.proofs.Blindness.{blind_loss}
use Rattle.i3c_device.proofs.SeenLaws.{narrowed_seen}
use Rattle.i3c_device.proofs.devices.Devices.drop_lost.Goals as goal

pub returns : goal.returns
returns c =
    narrowed_seen c.self.inside.enabled (λ s place. None) (left_at (lost_by c.args.cuts.now c.args.last)) c.lost_slots.result c.self.inside.occupants c.each.new.self c.args.self.now c.each.ensures.slots blind_loss
    c.self.view_is c.each.ensures.changed (λ s l. ap (λ b. if b then None else get_or c.args.self.now s None) (c.lost_slots.ensures s l))
