use Rattle.std.proofs.Common.{rules}
use Rattle.i3c_word.proofs.write_word.Goals as goal

pub returns-clause-odd : goal.returns-clause-odd
returns-clause-odd c = search rules
