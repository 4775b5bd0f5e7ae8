use Rattle.std.proofs.Common.{◌∙◌, None, ap, refl, subst, sym}
use Rattle.std.specs.Option.{option_copied}
use Rattle.i3c_lines.specs.Forms.{AreAddress}
use Rattle.i3c_lines.specs.Parsing.{Reads, tokens_in}
use Rattle.i3c_lines.proofs.Arguments.{address_written, no_address_line}
use Rattle.i3c_lines.proofs.LineLaws.{one_token}
use Rattle.i3c_lines.proofs.SplitLaws.{hex_no_space}
use Rattle.i3c_lines.proofs.command.parse_to.Goals as goal

pub returns-in_err-at : goal.returns-in_err-at
returns-in_err-at c = rw c.from_residual.ensures (subst (λ r. Reads AreAddress (tokens_in (option_copied r)) None) (sym c.in-Some.is) (no_address_line _ c.in_err-at.ensures.form.1))

pub returns : goal.returns
returns c =
    let is = c.in_ok-at.ensures.form.0 refl in
    (_, ap (λ r. tokens_in (option_copied r)) c.in-Some.is ∙ one_token _ (hex_no_space _ is.0.1), address_written _ _ is c.in_ok-at.ensures.value)
