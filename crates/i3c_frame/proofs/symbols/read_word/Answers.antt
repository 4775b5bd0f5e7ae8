use Rattle.i3c_frame.proofs.TextLaws.{word_parts}
use Rattle.i3c_frame.proofs.symbols.read_word.Goals as goal

pub returns-in_err-byte-clause-every : goal.returns-in_err-byte-clause-every
returns-in_err-byte-clause-every c symbol range e =
    let parts = word_parts symbol _ _ _ e in let some = c.in_err-byte.ensures.every parts.byte parts.digits in cc

pub returns-in_err-t-clause-every : goal.returns-in_err-t-clause-every
returns-in_err-t-clause-every c symbol range e =
    let parts = word_parts symbol _ _ _ e in let some = c.in_err-t.ensures.every parts.t parts.t_bit in cc
