use Rattle.std.proofs.Common.{rules}
use Rattle.i3c_step.proofs.replies.ReplyFromFrameFault.from.Goals as goal

pub returns-in-OutOfMemory : goal.returns-in-OutOfMemory
returns-in-OutOfMemory c = search rules
