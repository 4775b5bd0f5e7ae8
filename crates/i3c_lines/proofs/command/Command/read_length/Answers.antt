use Rattle.std.proofs.Common.{refl, subst, sym}
use Rattle.i3c_lines.specs.Forms.{AreLength}
use Rattle.i3c_lines.proofs.Arguments.{length_args}
use Rattle.i3c_lines.proofs.command.Command.read_length.Goals as goal

pub returns-in_err-most : goal.returns-in_err-most
returns-in_err-most c =
    rw c.from_residual.ensures
    (λ command form. let f = length_args c.args.way _ command form in c.in_err-most.ensures (f.0, f.1) (subst (λ tokens. AreLength tokens f.0 f.1) (sym c.of.ensures) f.2), refl)
