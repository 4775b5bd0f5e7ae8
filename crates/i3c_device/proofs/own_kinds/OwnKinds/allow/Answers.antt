use Rattle.std.proofs.Common.{rules}
use Rattle.i3c_device.proofs.own_kinds.OwnKinds.allow.Goals as goal

pub returns-in-Interrupt : goal.returns-in-Interrupt
returns-in-Interrupt c = search rules
