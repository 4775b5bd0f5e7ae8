use Rattle.std.proofs.Common.{refl}
use Rattle.i3c_lines.proofs.Beginnings.{only_write}
use Rattle.i3c_lines.proofs.command.Command.read_w.Goals as goal

pub returns : goal.returns
returns g c = (λ command form. let is = only_write c.args.tail.now command form in c.in_default.ensures is.0 is.1, refl)
