-- What a function makes of the bytes of a text is what it makes of the text.
use Rattle.std.proofs.Common.{IfSome, ap, arith, length, length-drop, subst}
use Rattle.std.proofs.lemmas.List.{take_rest}
use Rattle.i3c_frame.specs.Texts.{FindsSymbol, HasText}
use Rattle.i3c_frame.proofs.PrintLaws.{text_some}
use Rattle.i3c_frame.proofs.FirstLaws.{whole_1, whole_2, whole_3, whole_4, whole_5, whole_head}
use Rattle.i3c_frame.proofs.symbols.read_symbol.Goals as goal

pub returns-in-len1-clause-text : goal.returns-in-len1-clause-text
returns-in-len1-clause-text c = subst (λ text. IfSome c.read_letter.result (HasText text)) (whole_1 c.args.text.now (omega arith)) c.read_letter.ensures.text

pub returns-in-len1-clause-every : goal.returns-in-len1-clause-every
returns-in-len1-clause-every c = subst (λ text. FindsSymbol text c.read_letter.result) (whole_1 c.args.text.now (omega arith)) c.read_letter.ensures.every

pub returns-in-len2-clause-text : goal.returns-in-len2-clause-text
returns-in-len2-clause-text c = subst (λ text. IfSome c.read_pair.result (HasText text)) (whole_2 c.args.text.now (omega arith)) c.read_pair.ensures.text

pub returns-in-len2-clause-every : goal.returns-in-len2-clause-every
returns-in-len2-clause-every c = subst (λ text. FindsSymbol text c.read_pair.result) (whole_2 c.args.text.now (omega arith)) c.read_pair.ensures.every

pub returns-in-len3-clause-text : goal.returns-in-len3-clause-text
returns-in-len3-clause-text c = subst (λ text. IfSome c.read_legacy_word.result (HasText text)) (whole_3 c.args.text.now (omega arith)) c.read_legacy_word.ensures.text

pub returns-in-len3-clause-every : goal.returns-in-len3-clause-every
returns-in-len3-clause-every c = subst (λ text. FindsSymbol text c.read_legacy_word.result) (whole_3 c.args.text.now (omega arith)) c.read_legacy_word.ensures.every

pub returns-in-len4-clause-text : goal.returns-in-len4-clause-text
returns-in-len4-clause-text c = subst (λ text. IfSome c.read_four.result (HasText text)) (whole_4 c.args.text.now (omega arith)) c.read_four.ensures.text

pub returns-in-len4-clause-every : goal.returns-in-len4-clause-every
returns-in-len4-clause-every c = subst (λ text. FindsSymbol text c.read_four.result) (whole_4 c.args.text.now (omega arith)) c.read_four.ensures.every

pub returns-in-len5-clause-text : goal.returns-in-len5-clause-text
returns-in-len5-clause-text c = subst (λ text. IfSome c.read_header.result (HasText text)) (whole_5 c.args.text.now (omega arith)) c.read_header.ensures.text

pub returns-in-len5-clause-every : goal.returns-in-len5-clause-every
returns-in-len5-clause-every c = subst (λ text. FindsSymbol text c.read_header.result) (whole_5 c.args.text.now (omega arith)) c.read_header.ensures.every

pub returns-in-len1-up-clause-text : goal.returns-in-len1-up-clause-text
returns-in-len1-up-clause-text c = subst (λ text. IfSome c.read_identity.result (HasText text)) (whole_head c.args.text.now (omega arith)) c.read_identity.ensures.text

pub returns-in-len1-up-clause-every : goal.returns-in-len1-up-clause-every
returns-in-len1-up-clause-every c = subst (λ text. FindsSymbol text c.read_identity.result) (whole_head c.args.text.now (omega arith)) c.read_identity.ensures.every

pub returns-in-empty-clause-every : goal.returns-in-empty-clause-every
returns-in-empty-clause-every c symbol range e = absurd (omega (arith, text_some symbol, ap length e))

pub read_identity-requires : goal.read_identity-requires
read_identity-requires c = omega (arith, ap length (take_rest c.args.text.now 1), length-drop 1 c.args.text.now)
