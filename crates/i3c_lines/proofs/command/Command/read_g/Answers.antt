use Rattle.std.proofs.Common.{◌∷◌, refl, subst, sym}
use Rattle.i3c_lines.specs.Forms.{AreAsked, IsForm, tokens_of}
use Rattle.i3c_lines.proofs.Beginnings.{asked_args, asks}
use Rattle.i3c_lines.proofs.command.Command.read_g.Goals as goal

pub returns-in_err-line : goal.returns-in_err-line
returns-in_err-line c = rw c.from_residual.ensures (λ command form. let is = asks c.args.tail.now command form in c.in_err-line.ensures is.0 is.1, refl)

pub returns-in_err-what : goal.returns-in_err-what
returns-in_err-what c =
    rw c.from_residual-in_err-what.ensures (
      λ command form.
          let is = asked_args c.in_ok-line.line.now command (subst (λ tail. IsForm (tokens_of (103 ∷ tail)) command) c.in_ok-line.ensures form) in
          c.in_err-what.ensures (is.0, is.1) (subst (λ tokens. AreAsked tokens is.0 is.1) (sym c.of.ensures) is.2),
      refl,
    )
