use Rattle.std.proofs.Common.{rules}
use Rattle.i3c_device.proofs.attached.Attached.copied.Goals as goal

pub returns : goal.returns
returns c = search rules
