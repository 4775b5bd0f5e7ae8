use Rattle.std.proofs.Common.{◌∷◌, ap, codes, refl, subst, sym}
use Rattle.i3c_lines.specs.Forms.{WritesAddress}
use Rattle.i3c_lines.proofs.Arguments.{address_written, no_address, only_token, read_args}
use Rattle.i3c_lines.proofs.LineLaws.{one_token}
use Rattle.i3c_lines.proofs.SplitLaws.{hex_no_space}
use Rattle.i3c_lines.proofs.command.Command.read_read.Goals as goal

pub returns-in_err-at : goal.returns-in_err-at
returns-in_err-at g c =
    rw c.from_residual.ensures
    (λ command form. let f = read_args _ command form in no_address c.args.token.now c.in_err-at.ensures.form.1 f.0 (subst (λ w. WritesAddress w f.0) (sym (only_token c.args.token.now f.1 f.2)) f.3), refl)

pub returns : goal.returns
returns g c =
    let token = c.args.token.now in
    let is = c.in_ok-at.ensures.form.0 refl in
    (token, ap (λ ws. codes "read" ∷ ws) (one_token token (hex_no_space token is.0.1)), address_written token _ is c.in_ok-at.ensures.value)
