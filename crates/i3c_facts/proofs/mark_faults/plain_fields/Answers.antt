use Rattle.std.proofs.lemmas.Bool.{false≢true}
use Rattle.i3c_facts.proofs.MarkFaultLaws.{no_plain}
use Rattle.i3c_facts.proofs.mark_faults.plain_fields.Goals as goal

pub returns : goal.returns
returns c none =
    no_plain c.args.first.now (λ is. false≢true (c.if-is_token.ensures.1 is)) (λ is. false≢true (c.if-is_token-2.ensures.1 is)) (λ is. false≢true (c.if-is_token-3.ensures.1 is)) (λ is. false≢true (c.if-is_token-4.ensures.1 is))
