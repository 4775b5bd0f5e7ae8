use Rattle.std.proofs.Common.{refl}
use Rattle.i3c_lines.proofs.Arguments.{setnewda_args}
use Rattle.i3c_lines.proofs.command.Command.read_setnewda.Goals as goal

pub returns-in_err-at : goal.returns-in_err-at
returns-in_err-at c = rw c.from_residual.ensures (λ command form. let f = setnewda_args _ command form in c.in_err-at.ensures (f.0, f.1) f.2, refl)

pub returns : goal.returns
returns c = (_, refl, c.in_ok-at.ensures)
