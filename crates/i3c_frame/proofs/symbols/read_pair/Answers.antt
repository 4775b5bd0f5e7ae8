use Rattle.std.proofs.Common.{⊎_elim}
use Rattle.i3c_frame.proofs.TextLaws.{pair_parts}
use Rattle.i3c_frame.proofs.symbols.read_pair.Goals as goal

pub returns-else-first-eq83-clause-every : goal.returns-else-first-eq83-clause-every
returns-else-first-eq83-clause-every c symbol range e =
    let parts = pair_parts symbol _ _ e in
    ⊎_elim (λ second. absurd (second.1 parts.1)) (λ first. absurd (first parts.0)) c.else-first-eq83.either
