use Rattle.std.proofs.Common.{◌≡◌, length, ap, arith, subst, sym, ⊎_elim}
use Rattle.i3c_text.specs.Hex.{hex_text}
use Rattle.i3c_text.proofs.DigitLaws.{length-hex_text}
use Rattle.i3c_frame.proofs.TextLaws.{identity_parts}
use Rattle.i3c_frame.proofs.symbols.read_identity.Goals as goal

pub returns-then-equals-ne-EQUALS-clause-every : goal.returns-then-equals-ne-EQUALS-clause-every
returns-then-equals-ne-EQUALS-clause-every c symbol range e =
    let (bits, mark, digits) = identity_parts symbol _ _ e c.requires in
    ⊎_elim
    (λ other. absurd (other mark))
    (λ short. absurd (omega (arith, short.1, ap length digits, length-hex_text 16 bits)))
    c.then-equals-ne-EQUALS.either

pub returns-in_err-bits-clause-every : goal.returns-in_err-bits-clause-every
returns-in_err-bits-clause-every c symbol range e =
    let (bits, mark, digits) = identity_parts symbol _ _ e c.requires in
    let same = subst (λ count. hex_text count bits ≡ c.args.digits.now) (sym c.if-digits-ne16.false) digits in
    let some = c.in_err-bits.ensures.every bits same in cc
