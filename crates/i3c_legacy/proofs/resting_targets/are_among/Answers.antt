-- Each target so far is among the others, until one isn't.
use Rattle.std.proofs.Common.{refl}
use Rattle.std.proofs.lemmas.Bool.{false≢true}
use Rattle.i3c_legacy.proofs.SameLaws.{among_all, among_more, not_among}
use Rattle.i3c_legacy.proofs.resting_targets.are_among.Goals as goal

pub returns-then-not-is_among : goal.returns-then-not-is_among
returns-then-not-is_among c = (
  λ t. absurd (false≢true t),
  λ all. c.if-not-is_among.ensures.1 (not_among c.args.placed.now c.args.others.now c.loop-target.target-index c.target-item.result c.loop-target-test.true c.target-item.is all),
)

pub loop-target-preserved : goal.loop-target-preserved
loop-target-preserved c =
    among_more c.args.placed.now c.args.others.now c.loop-target.target-index c.target-item.result c.loop-target.invariant c.loop-target-test.true c.target-item.is (c.if-not-is_among.ensures.0 refl)

pub returns : goal.returns
returns c = (λ _. among_all c.args.placed.now c.args.others.now c.loop-target.target-index c.loop-target.invariant c.loop-target-test.false, λ _. refl)
