use Rattle.std.proofs.Common.{rules}
use Rattle.i3c_entdaa.proofs.rounds.give.Goals as goal

pub returns-clause-taken : goal.returns-clause-taken
returns-clause-taken c = search rules
