use Rattle.std.proofs.Common.{rules}
use Rattle.i3c_device.proofs.attached.Attached.lose_front.Goals as goal

pub returns-then-not-is_empty : goal.returns-then-not-is_empty
returns-then-not-is_empty c = search rules
