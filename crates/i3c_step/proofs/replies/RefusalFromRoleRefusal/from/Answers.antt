use Rattle.std.proofs.Common.{rules}
use Rattle.i3c_step.proofs.replies.RefusalFromRoleRefusal.from.Goals as goal

pub returns-in-Masked : goal.returns-in-Masked
returns-in-Masked c = search rules
