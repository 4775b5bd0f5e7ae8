use Rattle.std.proofs.Common.{rules}
use Rattle.i3c_device.proofs.attached.Attached.key.Goals as goal

pub returns-in-Some-2-clause-key : goal.returns-in-Some-2-clause-key
returns-in-Some-2-clause-key c = search rules
