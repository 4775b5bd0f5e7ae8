use Rattle.std.proofs.Common.{None}
use Rattle.i3c_device.proofs.Blindness.{blind_loss}
use Rattle.i3c_device.proofs.SeenLaws.{updated_seen}
use Rattle.i3c_device.proofs.devices.Devices.remove.Goals as goal

pub returns : goal.returns
returns c = updated_seen c.self.inside.enabled (λ s place. None) c.self.inside.occupants c.put.new.self c.args.self.now c.args.slot blind_loss c.self.view_is c.put.ensures.put
