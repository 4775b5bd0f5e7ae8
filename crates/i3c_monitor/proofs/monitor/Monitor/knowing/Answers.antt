use Rattle.std.proofs.Common.{rules}
use Rattle.i3c_monitor.proofs.monitor.Monitor.knowing.Goals as goal

pub returns : goal.returns
returns c = search rules
