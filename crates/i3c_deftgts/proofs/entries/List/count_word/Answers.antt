use Rattle.std.proofs.Common.{rules}
use Rattle.i3c_deftgts.proofs.entries.List.count_word.Goals as goal

pub returns-clause-count : goal.returns-clause-count
returns-clause-count c = search rules
