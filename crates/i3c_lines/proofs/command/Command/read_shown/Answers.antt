use Rattle.std.proofs.Common.{refl, subst, sym}
use Rattle.i3c_lines.specs.Forms.{ArePlace}
use Rattle.i3c_lines.proofs.Beginnings.{shown_args}
use Rattle.i3c_lines.proofs.command.Command.read_shown.Goals as goal

pub returns-in_err-first : goal.returns-in_err-first
returns-in_err-first c =
    rw c.from_residual.ensures
    (λ command form. let f = shown_args c.args.line.now command c.requires form in c.in_err-first.ensures f.0 (subst (λ tokens. ArePlace tokens f.0) (sym c.of.ensures) f.1), refl)
