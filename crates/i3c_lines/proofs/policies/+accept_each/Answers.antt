use Rattle.std.proofs.Common.{subst}
use Rattle.i3c_lines.specs.Policies.{AcceptEach}
use Rattle.i3c_lines.proofs.policies.+accept_each.Goals as goal

pub returns-in_err-next : goal.returns-in_err-next
returns-in_err-next t c = rw c.from_residual.ensures (λ new are. let is = subst (λ tokens. AcceptEach tokens c.args.policy new) c.in-Some.ensures are in c.in_err-next.ensures is.0 is.1)
