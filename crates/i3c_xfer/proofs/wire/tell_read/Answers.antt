use Rattle.std.proofs.Common.{rules}
use Rattle.i3c_xfer.proofs.wire.tell_read.Goals as goal

pub returns-in-Torn : goal.returns-in-Torn
returns-in-Torn g c = search rules
