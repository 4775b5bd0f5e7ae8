use Rattle.std.proofs.Common.{rules}
use Rattle.i3c_recorder.proofs.packed.event_in.Goals as goal

pub returns-in-Disec : goal.returns-in-Disec
returns-in-Disec c = search rules
