use Rattle.std.proofs.Common.{refl}
use Rattle.std.proofs.lemmas.Bool.{false≢true}
use Rattle.i3c_lines.specs.Parsing.{left_tokens}
use Rattle.i3c_facts.proofs.MarkFaultLaws.{behind_plain, no_facts, no_mark}
use Rattle.i3c_facts.proofs.mark_faults.word_fault.Goals as goal

pub returns-in-Some : goal.returns-in-Some
returns-in-Some c =
    let first = c.args.first.now in
    behind_plain first (left_tokens c.args.tokens.now) c.misfit_behind.result (no_facts first (λ expect. false≢true (c.if-is_token.ensures.1 expect)) (λ always. false≢true (c.if-is_token-2.ensures.1 always))) c.misfit_behind.ensures

pub returns-in-None : goal.returns-in-None
returns-in-None c =
    let first = c.args.first.now in
    no_mark first (no_facts first (λ expect. false≢true (c.if-is_token.ensures.1 expect)) (λ always. false≢true (c.if-is_token-2.ensures.1 always))) (c.in-None.ensures refl)
