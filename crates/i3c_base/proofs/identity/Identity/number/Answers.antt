-- Equal numbers are of one identity.
use Rattle.std.proofs.Common.{arith}
use Rattle.i3c_base.proofs.NumberLaws.{same_number}
use Rattle.i3c_base.proofs.identity.Identity.number.Goals as goal

pub returns-clause-own : goal.returns-clause-own
returns-clause-own c j b e = same_number c.args.self j (omega arith, omega arith, omega arith) b (omega (arith, e))
