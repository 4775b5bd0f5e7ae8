use Rattle.std.proofs.Common.{refl}
use Rattle.i3c_lines.proofs.Arguments.{disec_args}
use Rattle.i3c_lines.proofs.command.Command.read_disec.Goals as goal

pub returns-in_err-to : goal.returns-in_err-to
returns-in_err-to g c = rw c.from_residual.ensures (λ command form. let f = disec_args _ command form in c.in_err-to.ensures (f.0, f.1) f.2, refl)

pub returns : goal.returns
returns g c = (_, refl, c.in_ok-to.ensures)
