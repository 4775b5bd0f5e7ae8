use Rattle.std.proofs.Common.{rules}
use Rattle.i3c_deftgts.proofs.writing.bytes_of.Goals as goal

pub returns-in-Device : goal.returns-in-Device
returns-in-Device c = search rules
