use Rattle.std.proofs.Common.{rules, ◌≡◌, arith, ◌∙◌, sym}
use Rattle.i3c_text.proofs.DigitLaws.{hex_text_same}
use Rattle.i3c_frame.proofs.TextLaws.{header_parts}
use Rattle.i3c_frame.proofs.symbols.read_header.Goals as goal

pub returns-then-slash-ne-SLASH-clause-every : goal.returns-then-slash-ne-SLASH-clause-every
returns-then-slash-ne-SLASH-clause-every c symbol range e =
    let parts = header_parts symbol _ _ _ _ _ range e in absurd (c.if-slash-ne-SLASH.true parts.divided)

pub returns-in_err-read_byte-clause-every : goal.returns-in_err-read_byte-clause-every
returns-in_err-read_byte-clause-every c symbol range e =
    let parts = header_parts symbol _ _ _ _ _ range e in let some = c.in_err-read_byte.ensures.every parts.address parts.digits in cc

pub returns-in_err-address-clause-every : goal.returns-in_err-address-clause-every
returns-in_err-address-clause-every c symbol range e =
    let parts = header_parts symbol _ _ _ _ _ range e in
    let same : parts.address ≡ c.in_ok-read_byte.field-0 = hex_text_same 2 _ _ (omega (arith, parts.range)) (omega arith) (parts.digits ∙ sym c.in_ok-read_byte.ensures.text) in
    let ok = c.new.ensures.ok.1 (omega (arith, parts.range, same)) in let err = c.in_err-address.ensures.variant in cc

pub returns-in_err-read-clause-every : goal.returns-in_err-read-clause-every
returns-in_err-read-clause-every c symbol range e =
    let parts = header_parts symbol _ _ _ _ _ range e in let some = c.in_err-read.ensures.every parts.read parts.way in cc

pub returns-in_err-ack-clause-every : goal.returns-in_err-ack-clause-every
returns-in_err-ack-clause-every c symbol range e =
    let parts = header_parts symbol _ _ _ _ _ range e in let some = c.in_err-ack.ensures.every parts.ack parts.answer in cc

pub returns-clause-text : goal.returns-clause-text
returns-clause-text c = search rules
