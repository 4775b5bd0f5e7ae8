-- The bit of the cut.
use Rattle.std.proofs.Common.{◌-◌, ap, arith, suc, sym, ◌∙◌, Some}
use Rattle.i3c_wires.specs.Masks.{is_at}
use Rattle.i3c_wires.proofs.TurnLaws.{cut_uncut, cut_within}
use Rattle.i3c_wires.proofs.turns.cut_bit.Goals as goal

pub returns-then-bit-width-clause-uncut : goal.returns-then-bit-width-clause-uncut
returns-then-bit-width-clause-uncut c left low none =
    ap (is_at (c.args.width - suc left)) (sym c.at.ensures ∙ (c.in-Some.is ∙ ap Some (sym c.from-bit.ensures)))
    ∙ cut_uncut c.args.width c.from-bit.result left (omega arith) (omega arith) low none

pub returns-then-bit-width-clause-within : goal.returns-then-bit-width-clause-within
returns-then-bit-width-clause-within c left one = cut_within c.args.width c.from-bit.result left (omega arith) (omega arith) one
