use Rattle.std.proofs.Common.{refl}
use Rattle.i3c_lines.proofs.Arguments.{frames_args}
use Rattle.i3c_lines.proofs.command.Command.read_frames.Goals as goal

pub returns-in_err-count : goal.returns-in_err-count
returns-in_err-count c = rw c.from_residual.ensures (λ command form. let f = frames_args _ command form in c.in_err-count.ensures f.0 f.1, refl)
