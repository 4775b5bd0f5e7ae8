use Rattle.i3c_lines.proofs.Exceptions.{no_names}
use Rattle.i3c_lines.proofs.policies.policy_but.Goals as goal

pub returns-in_err-kinds : goal.returns-in_err-kinds
returns-in_err-kinds c = rw c.from_residual.ensures (λ parts is. c.in_err-kinds.ensures parts.0 is.0 is.1 is.2 is.3 is.4)

pub returns-in_err-names : goal.returns-in_err-names
returns-in_err-names c =
    rw c.from_residual-in_err-names.ensures
    (λ parts is. no_names _ c.in_ok-kinds.ensures.0 _ c.in_ok-kinds.kinds c.in_ok-kinds.ensures.1 c.in_ok-kinds.ensures.2 c.in_err-names.ensures parts.0 parts.1 is)
