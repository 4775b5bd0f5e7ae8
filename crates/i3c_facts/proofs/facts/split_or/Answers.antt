use Rattle.std.proofs.Common.{◌≡◌, arith, length, refl, subst}
use Rattle.i3c_facts.proofs.ClaimLaws.{IsNoOrBelow, first_part_cut, one_part}
use Rattle.i3c_facts.proofs.facts.split_or.Goals as goal

pub returns-then-is_token-clause-parts : goal.returns-then-is_token-clause-parts
returns-then-is_token-clause-parts c = first_part_cut c.args.tokens.now c.loop-at.at _ c.loop-at-test.true (c.if-is_token.ensures.0 refl) c.loop-at.invariant

pub returns-clause-parts : goal.returns-clause-parts
returns-clause-parts c =
    let all : c.loop-at.at ≡ length c.args.tokens.now = omega (arith, c.loop-at.auto.at-end, c.loop-at-test.false) in one_part c.args.tokens.now (subst (IsNoOrBelow c.args.tokens.now) all c.loop-at.invariant)
