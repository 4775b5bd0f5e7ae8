use Rattle.std.proofs.lemmas.Bool.{false≢true}
use Rattle.i3c_lines.proofs.policies.is_kind.Goals as goal

pub returns-in-None : goal.returns-in-None
returns-in-None c = (λ yes. absurd (false≢true yes), λ named. absurd (c.in-None.ensures named.0 named.1))
