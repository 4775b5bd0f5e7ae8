use Rattle.std.proofs.Common.{refl}
use Rattle.i3c_lines.proofs.Arguments.{forget_args}
use Rattle.i3c_lines.proofs.command.Command.read_forget.Goals as goal

pub returns-in_err-last : goal.returns-in_err-last
returns-in_err-last c = rw c.from_residual.ensures (λ command form. let f = forget_args _ command form in c.in_err-last.ensures f.0 f.1, refl)
