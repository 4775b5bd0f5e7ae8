use Rattle.std.proofs.Common.{arith}
use Rattle.std.proofs.lemmas.Grind.{common_steps}
use Rattle.i3c_lines.proofs.names.Name.parse.Goals as goal

pub returns-clause-form : goal.returns-clause-form
returns-clause-form c = grind (arith, common_steps)
