use Rattle.std.proofs.Common.{rules}
use Rattle.i3c_device.proofs.attached.Attached.raise.Goals as goal

pub returns-clause-fault : goal.returns-clause-fault
returns-clause-fault c = search rules
