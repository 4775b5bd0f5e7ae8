use Rattle.std.proofs.Common.{⊎_elim, arith}
use Rattle.i3c_frame.proofs.TextLaws.{four_parts}
use Rattle.i3c_frame.proofs.symbols.read_four.Goals as goal

pub returns-else-third-eq-DOT-clause-every : goal.returns-else-third-eq-DOT-clause-every
returns-else-third-eq-DOT-clause-every c symbol range e =
    ⊎_elim (λ at_sign. absurd (omega arith)) (λ dot. absurd (omega arith)) (four_parts symbol _ _ _ _ e)
