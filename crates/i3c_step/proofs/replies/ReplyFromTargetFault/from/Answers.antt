use Rattle.std.proofs.Common.{rules}
use Rattle.i3c_step.proofs.replies.ReplyFromTargetFault.from.Goals as goal

pub returns-in-NoAnswer : goal.returns-in-NoAnswer
returns-in-NoAnswer c = search rules
