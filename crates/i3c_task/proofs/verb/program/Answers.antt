use Rattle.std.proofs.Common.{rules}
use Rattle.i3c_task.proofs.verb.program.Goals as goal

pub returns : goal.returns
returns c = search rules
