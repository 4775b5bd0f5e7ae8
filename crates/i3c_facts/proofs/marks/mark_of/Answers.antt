use Rattle.std.proofs.Common.{◌≡◌, ◌∷◌, rules, subst, sym}
use Rattle.std.proofs.lemmas.Bool.{false≢true}
use Rattle.i3c_lines.specs.Parsing.{Reads}
use Rattle.i3c_facts.specs.Forms.{IsMarkForm, texts}
use Rattle.i3c_facts.proofs.MarkLaws.{plain_of}
use Rattle.i3c_facts.proofs.marks.mark_of.Goals as goal

pub returns : goal.returns
returns c =
    let first = c.in-Some.first.now.now in
    let rest = texts c.in-Some.rest.now in
    let e : texts c.args.tokens.now ≡ first ∷ rest = search rules in
    subst (λ ws. Reads IsMarkForm ws c.plain_mark.result) (sym e)
    (plain_of first rest c.plain_mark.result (λ always. false≢true (c.if-is_token.ensures.1 always)) (λ expect. false≢true (c.if-is_token-2.ensures.1 expect)) c.plain_mark.ensures)
