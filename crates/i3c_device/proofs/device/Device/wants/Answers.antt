use Rattle.std.proofs.Common.{rules}
use Rattle.i3c_device.proofs.device.Device.wants.Goals as goal

pub returns-else-allow : goal.returns-else-allow
returns-else-allow c = search rules

pub returns-then-allow : goal.returns-then-allow
returns-then-allow c = search rules
