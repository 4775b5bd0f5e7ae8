use Rattle.std.proofs.Common.{rules}
use Rattle.i3c_xfer.proofs.answers.Write.is_acknowledged.Goals as goal

pub returns-in-Nobody : goal.returns-in-Nobody
returns-in-Nobody c = search rules
