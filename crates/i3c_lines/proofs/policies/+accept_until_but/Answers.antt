use Rattle.std.proofs.lemmas.Bool.{false≢true}
use Rattle.i3c_lines.proofs.Exceptions.{front_more, no_front}
use Rattle.i3c_lines.proofs.policies.+accept_until_but.Goals as goal

pub returns-in_err-next : goal.returns-in_err-next
returns-in_err-next t c = rw c.from_residual-in_err-next.ensures (no_front _ _ c.in_ok-token.token.now c.args.policy c.in_ok-token.ensures (λ but. false≢true (c.if-is_token.ensures.1 but)) c.in_err-next.ensures)

pub returns : goal.returns
returns t c = front_more _ _ _ c.in_ok-token.token.now c.args.policy c.in_ok-next.next c.accept_until_but.result c.in_ok-token.ensures (λ but. false≢true (c.if-is_token.ensures.1 but)) c.in_ok-next.ensures c.accept_until_but.ensures
