use Rattle.std.proofs.Common.{⊎_elim, arith}
use Rattle.i3c_frame.proofs.TextLaws.{letter_parts}
use Rattle.i3c_frame.proofs.symbols.read_letter.Goals as goal

pub returns-in_default-clause-every : goal.returns-in_default-clause-every
returns-in_default-clause-every c symbol range e = ⊎_elim (λ start. absurd (omega arith)) (λ stop. absurd (omega arith)) (letter_parts symbol c.args.letter e)
