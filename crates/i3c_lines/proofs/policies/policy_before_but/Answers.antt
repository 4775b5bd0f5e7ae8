use Rattle.std.proofs.Common.{◌∙◌, ◌∷◌, ap, refl}
use Rattle.std.proofs.lemmas.Bool.{false≢true}
use Rattle.i3c_lines.specs.Parsing.{left_tokens}
use Rattle.i3c_lines.proofs.Exceptions.{all_but, kinds_but, no_kinds, nothing_but}
use Rattle.i3c_lines.proofs.policies.policy_before_but.Goals as goal

pub returns-in_err-first : goal.returns-in_err-first
returns-in_err-first c = rw c.from_residual.ensures (λ kinds front rest e is some. nothing_but _ front rest c.in_err-first.ensures e)

pub returns-then-is_token : goal.returns-then-is_token
returns-then-is_token c = all_but _ _ _ c.accept_until_but.result (c.in_ok-first.ensures ∙ ap (λ w. w ∷ left_tokens c.next.new.self) (c.if-is_token.ensures.0 refl)) c.accept_until_but.ensures

pub returns-in_err-policy : goal.returns-in_err-policy
returns-in_err-policy c = rw c.from_residual-in_err-policy.ensures (no_kinds _ _ c.in_ok-first.first.now c.in_ok-first.ensures (λ all. false≢true (c.if-is_token.ensures.1 all)) c.in_err-policy.ensures)

pub returns : goal.returns
returns c = kinds_but _ _ _ c.in_ok-first.first.now c.in_ok-policy.policy c.accept_until_but-2.result c.in_ok-first.ensures (λ all. false≢true (c.if-is_token.ensures.1 all)) c.in_ok-policy.ensures c.accept_until_but-2.ensures
