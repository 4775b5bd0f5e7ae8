use Rattle.std.proofs.Common.{rules}
use Rattle.i3c_monitor.proofs.words.due_word.Goals as goal

pub returns-in-None : goal.returns-in-None
returns-in-None c = search rules
