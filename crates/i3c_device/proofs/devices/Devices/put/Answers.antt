use Rattle.std.proofs.Common.{◌∙◌, Some, ap, set}
use Rattle.i3c_base.specs.State.{Device}
use Rattle.i3c_device.specs.Enabling.{kinds_of}
use Rattle.i3c_device.proofs.SeenLaws.{entered_seen}
use Rattle.i3c_device.proofs.devices.Devices.put.Goals as goal

pub returns : goal.returns
returns c =
    entered_seen c.self.inside.enabled c.renewed-self-inside.result c.self.inside.occupants c.put.new.self c.args.self.now c.args.slot c.index.result (kinds_of c.device.inside.kinds) c.device.inside.attached c.put.ensures.slots
    c.index.ensures.in_range c.index.ensures.same c.renewed-self-inside.ensures c.self.view_is c.put.ensures.put
    ∙ ap (λ (d : Device). set c.args.self.now c.args.slot (Some d)) c.device.view_is
