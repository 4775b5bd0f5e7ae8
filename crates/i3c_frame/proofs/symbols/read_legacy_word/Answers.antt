use Rattle.i3c_frame.proofs.TextLaws.{legacy_word_parts}
use Rattle.i3c_frame.proofs.symbols.read_legacy_word.Goals as goal

pub returns-in_err-byte-clause-every : goal.returns-in_err-byte-clause-every
returns-in_err-byte-clause-every c symbol range e =
    let parts = legacy_word_parts symbol _ _ _ e in let some = c.in_err-byte.ensures.every parts.byte parts.digits in cc

pub returns-in_err-ack-clause-every : goal.returns-in_err-ack-clause-every
returns-in_err-ack-clause-every c symbol range e =
    let parts = legacy_word_parts symbol _ _ _ e in let some = c.in_err-ack.ensures.every parts.ack parts.answer in cc
