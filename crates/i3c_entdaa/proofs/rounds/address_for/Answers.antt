use Rattle.std.proofs.Common.{rules}
use Rattle.i3c_entdaa.proofs.rounds.address_for.Goals as goal

pub returns-in-Some-clause-chosen : goal.returns-in-Some-clause-chosen
returns-in-Some-clause-chosen c = search rules
