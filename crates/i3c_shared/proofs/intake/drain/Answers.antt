use Rattle.std.proofs.Common.{◌≡◌, ◌<◌, ◌≤◌, rules, arith, subst, sym, ◌∙◌, length, get_or}
use Rattle.std.specs.Prelude.{None}
use Rattle.std.proofs.lemmas.List.{get_or_default}
use Rattle.std.proofs.lemmas.Grind.{common_steps}
use Rattle.i3c_shared.specs.declared.port.TheConstants.{POSTS}
use Rattle.i3c_shared.specs.Rings.{known_of, raises_below, raises_in, ring_at}
use Rattle.i3c_shared.specs.Taking.{Adds}
use Rattle.i3c_shared.proofs.Taken.{adds_at}
use Rattle.i3c_shared.proofs.intake.drain.Goals as goal

pub loop-ring-preserved : goal.loop-ring-preserved
loop-ring-preserved c =
    let i = c.loop-ring.ring-index in
    let lt : i < length c.loop-ring.ring-items = omega arith in
    let here : ring_at c.deref_mut-ring-items.result.now i ≡ get_or c.loop-ring.ring-items i c.ring-item.result = sym (c.loop-ring.invariant.rest i (omega arith)) ∙ get_or_default _ i None _ lt in
    let few : length (known_of (get_or c.loop-ring.ring-items i c.ring-item.result)) ≤ POSTS = rw (← here, c.deref_mut-ring-items.ensures.value) (c.requires.few i) in
    record {
      at = omega arith;
      same = search rules;
      drained = grind (arith, common_steps);
      rest = grind (arith, common_steps);
      room = c.drain_one.ensures.room;
      adds = adds_at i c.from_index.result c.deref_mut-ring-items.result.now (get_or c.loop-ring.ring-items i c.ring-item.result) _ _ _ (c.from_index.ensures ∙ c.loop-ring.invariant.at) here c.loop-ring.invariant.adds c.drain_one.ensures.added;
      spare = omega (arith, c.drain_one.ensures.spare, few, c.loop-ring.invariant.spare);
    }

pub returns-clause-added : goal.returns-clause-added
returns-clause-added c =
    let all : c.loop-ring.ring-index ≡ length c.deref_mut-ring-items.result.now = omega (arith, c.loop-ring.auto.ring-index-end, c.loop-ring-test.false) in
    subst (λ rings. Adds c.args.recorder.now (raises_in rings) c.loop-ring.recorder) c.deref_mut-ring-items.ensures.value
    (subst (λ n. Adds c.args.recorder.now (raises_below n c.deref_mut-ring-items.result.now) c.loop-ring.recorder) all c.loop-ring.invariant.adds)
