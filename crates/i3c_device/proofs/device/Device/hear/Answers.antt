use Rattle.std.proofs.Common.{rules}
use Rattle.i3c_device.proofs.device.Device.hear.Goals as goal

pub returns-in-Enec : goal.returns-in-Enec
returns-in-Enec c = search rules

pub returns-in-Disec : goal.returns-in-Disec
returns-in-Disec c = search rules
