use Rattle.std.proofs.Common.{rules}
use Rattle.i3c_monitor.proofs.printing.verdict_text.Goals as goal

pub returns-else-accepted : goal.returns-else-accepted
returns-else-accepted c = search rules
