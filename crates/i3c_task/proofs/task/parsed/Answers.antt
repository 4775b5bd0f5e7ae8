use Rattle.std.proofs.Common.{refl}
use Rattle.i3c_task.proofs.task.parsed.Goals as goal

pub returns : goal.returns
returns c = c.accepted-2.ensures refl
