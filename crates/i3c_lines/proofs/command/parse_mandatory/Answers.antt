use Rattle.std.proofs.Common.{◌∙◌, None, ap, refl, subst, sym}
use Rattle.std.specs.Option.{option_copied}
use Rattle.i3c_lines.specs.Forms.{AreByte}
use Rattle.i3c_lines.specs.Parsing.{Reads, tokens_in}
use Rattle.i3c_lines.proofs.Arguments.{no_byte_line}
use Rattle.i3c_lines.proofs.LineLaws.{one_token}
use Rattle.i3c_lines.proofs.SplitLaws.{hex_no_space}
use Rattle.i3c_lines.proofs.command.parse_mandatory.Goals as goal

pub returns-in_err-byte : goal.returns-in_err-byte
returns-in_err-byte c = rw c.from_residual.ensures (subst (λ r. Reads AreByte (tokens_in (option_copied r)) None) (sym c.in-Some.is) (no_byte_line _ c.in_err-byte.ensures.form.1))

pub returns : goal.returns
returns c =
    let is = c.in_ok-byte.ensures.form.0 refl in
    (_, ap (λ r. tokens_in (option_copied r)) c.in-Some.is ∙ one_token _ (hex_no_space _ is.1), (is, c.in_ok-byte.ensures.value))
