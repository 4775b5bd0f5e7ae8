use Rattle.std.proofs.Common.{rules}
use Rattle.i3c_deftgts.proofs.reading.is_count.Goals as goal

pub returns-else-count-entries : goal.returns-else-count-entries
returns-else-count-entries c = search rules
