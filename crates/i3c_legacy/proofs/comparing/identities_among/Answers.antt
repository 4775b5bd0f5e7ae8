-- Each identity so far is among the others, until one isn't.
use Rattle.std.proofs.Common.{refl}
use Rattle.std.proofs.lemmas.Bool.{false≢true}
use Rattle.i3c_legacy.proofs.SameLaws.{among_all, among_more, not_among}
use Rattle.i3c_legacy.proofs.comparing.identities_among.Goals as goal

pub returns-then-not-is_identity_among : goal.returns-then-not-is_identity_among
returns-then-not-is_identity_among c = (
  λ t. absurd (false≢true t),
  λ all. c.if-not-is_identity_among.ensures.1 (not_among c.args.identities.now c.args.others.now c.loop-declared.declared-index c.declared-item.result c.loop-declared-test.true c.declared-item.is all),
)

pub loop-declared-preserved : goal.loop-declared-preserved
loop-declared-preserved c =
    among_more c.args.identities.now c.args.others.now c.loop-declared.declared-index c.declared-item.result c.loop-declared.invariant c.loop-declared-test.true c.declared-item.is (c.if-not-is_identity_among.ensures.0 refl)

pub returns : goal.returns
returns c = (λ _. among_all c.args.identities.now c.args.others.now c.loop-declared.declared-index c.loop-declared.invariant c.loop-declared-test.false, λ _. refl)
