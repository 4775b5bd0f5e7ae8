use Rattle.std.proofs.Common.{rules}
use Rattle.i3c_task.proofs.argument.taking.Goals as goal

pub returns-in-File : goal.returns-in-File
returns-in-File c = search rules

pub returns-in-Texts : goal.returns-in-Texts
returns-in-Texts c = search rules
