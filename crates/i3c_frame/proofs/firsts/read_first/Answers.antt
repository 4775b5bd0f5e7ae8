-- The bytes before the separator are those that were read.
use Rattle.std.proofs.Common.{[], ◌∷◌, IfSome, ap, arith, get_or, rules, subst, sym, ◌∙◌}
use Rattle.i3c_frame.specs.Texts.{HasText}
use Rattle.i3c_frame.proofs.FirstLaws.{take_1, take_2, take_3, take_4, take_5}
use Rattle.i3c_frame.proofs.firsts.read_first.Goals as goal

pub with_rest-requires-clause-parted : goal.with_rest-requires-clause-parted
with_rest-requires-clause-parted c = search rules

pub with_rest-requires-clause-front : goal.with_rest-requires-clause-front
with_rest-requires-clause-front c =
    let text = c.args.text.now in
    subst (λ front. IfSome c.read_word.result (HasText front)) (ap (λ third. get_or text 0 0 ∷ get_or text 1 0 ∷ third ∷ get_or text 3 0 ∷ []) (sym c.if-third-eq-DOT.true) ∙ sym (take_4 text (omega arith))) c.read_word.ensures.text

pub with_rest-requires-then-parts_symbols-2-clause-front : goal.with_rest-requires-then-parts_symbols-2-clause-front
with_rest-requires-then-parts_symbols-2-clause-front c =
    let text = c.args.text.now in
    subst (λ front. IfSome c.read_header-symbol.result (HasText front)) (sym (take_5 text (omega arith))) c.read_header-symbol.ensures.text

pub with_rest-requires-then-parts_symbols-3-clause-front : goal.with_rest-requires-then-parts_symbols-3-clause-front
with_rest-requires-then-parts_symbols-3-clause-front c =
    let text = c.args.text.now in
    subst (λ front. IfSome c.read_letter.result (HasText front)) (sym (take_1 text (omega arith))) c.read_letter.ensures.text

pub with_rest-requires-then-parts_symbols-4-clause-front : goal.with_rest-requires-then-parts_symbols-4-clause-front
with_rest-requires-then-parts_symbols-4-clause-front c =
    let text = c.args.text.now in
    subst (λ front. IfSome c.read_pair.result (HasText front)) (sym (take_2 text (omega arith))) c.read_pair.ensures.text

pub with_rest-requires-then-parts_symbols-5-clause-front : goal.with_rest-requires-then-parts_symbols-5-clause-front
with_rest-requires-then-parts_symbols-5-clause-front c =
    let text = c.args.text.now in
    subst (λ front. IfSome c.read_legacy_word.result (HasText front)) (sym (take_3 text (omega arith))) c.read_legacy_word.ensures.text

pub with_rest-requires-then-parts_symbols-6-clause-front : goal.with_rest-requires-then-parts_symbols-6-clause-front
with_rest-requires-then-parts_symbols-6-clause-front c =
    let text = c.args.text.now in
    subst (λ front. IfSome c.read_address_byte.result (HasText front)) (ap (λ first. first ∷ get_or text 1 0 ∷ get_or text 2 0 ∷ get_or text 3 0 ∷ []) (sym c.if-first-eq-AT_SIGN.true) ∙ sym (take_4 text (omega arith))) c.read_address_byte.ensures.text
