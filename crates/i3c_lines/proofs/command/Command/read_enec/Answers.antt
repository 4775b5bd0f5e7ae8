use Rattle.std.proofs.Common.{refl}
use Rattle.i3c_lines.proofs.Arguments.{enec_args}
use Rattle.i3c_lines.proofs.command.Command.read_enec.Goals as goal

pub returns-in_err-to : goal.returns-in_err-to
returns-in_err-to g c = rw c.from_residual.ensures (λ command form. let f = enec_args _ command form in c.in_err-to.ensures (f.0, f.1) f.2, refl)

pub returns : goal.returns
returns g c = (_, refl, c.in_ok-to.ensures)
