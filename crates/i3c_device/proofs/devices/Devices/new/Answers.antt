use Rattle.std.proofs.Common.{◌∙◌, ap}
use Rattle.i3c_device.specs.Enabling.{seen}
use Rattle.i3c_device.proofs.SeenLaws.{seen_none}
use Rattle.i3c_device.proofs.devices.Devices.new.Goals as goal

pub returns : goal.returns
returns c = ap (seen c.new-2.result) c.new.ensures ∙ seen_none c.new-2.result
