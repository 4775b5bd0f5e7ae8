use Rattle.std.proofs.Common.{refl}
use Rattle.i3c_lines.proofs.Arguments.{declare_args}
use Rattle.i3c_lines.proofs.command.Command.read_declare.Goals as goal

pub returns-in_err-address : goal.returns-in_err-address
returns-in_err-address c = rw c.from_residual.ensures (λ command form. let f = declare_args _ command form in c.in_err-address.ensures (f.0, f.1) f.2, refl)
