use Rattle.std.proofs.Common.{◌∙◌, ap, sym}
use Rattle.i3c_lines.proofs.Meanings.{rest_of}
use Rattle.i3c_lines.proofs.command.parse_declared.Goals as goal

pub returns-in_err-identity : goal.returns-in_err-identity
returns-in_err-identity c =
    rw c.from_residual-in_err-identity.ensures
    (λ parts is. c.in_err-identity.ensures parts.1 is.1 is.2 is.3 _ (ap rest_of (sym c.in_ok-next.ensures ∙ is.4)) is.6)
