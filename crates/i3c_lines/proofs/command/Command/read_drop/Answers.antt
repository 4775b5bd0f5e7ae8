use Rattle.std.proofs.Common.{refl}
use Rattle.i3c_lines.proofs.Arguments.{drop_args}
use Rattle.i3c_lines.proofs.command.Command.read_drop.Goals as goal

pub returns-in_err-name : goal.returns-in_err-name
returns-in_err-name c = rw c.from_residual.ensures (λ command form. let f = drop_args _ command form in c.in_err-name.ensures f.0 f.1, refl)
