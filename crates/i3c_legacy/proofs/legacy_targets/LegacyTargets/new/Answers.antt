-- Each declared target is placed.
use Rattle.std.proofs.Common.{◌++◌, ◌∷◌, [], ◌∙◌, ap, arith, length, length-take, subst, sym, take}
use Rattle.std.specs.Prelude.{map}
use Rattle.std.proofs.lemmas.List.{length-map, map_more, take_all}
use Rattle.i3c_legacy.proofs.TargetLaws.{placed_of, targets_placed}
use Rattle.i3c_legacy.specs.Rows.{places, HasOwnAddresses}
use Rattle.i3c_legacy.proofs.WriteLaws.{own_placed, place_of}
use Rattle.i3c_base.specs.State.{Board, legacy_targets_of}
use Rattle.i3c_legacy.proofs.legacy_targets.LegacyTargets.new.Goals as goal

pub push-requires : goal.push-requires
push-requires c =
    let few = ap length c.loop-declared.invariant in
    let mapped = length-map (take c.loop-declared.declared-index c.deref-declared-items.result.now) placed_of in
    let taken = length-take c.loop-declared.declared-index c.deref-declared-items.result.now in
    (omega arith, omega (arith, few, mapped, taken, c.deref-declared-items.ensures.1))

pub loop-declared-preserved : goal.loop-declared-preserved
loop-declared-preserved c =
    c.push.ensures.items
    ∙ ((λ t. c.loop-declared.invariant t ++ placed_of (c.declared-item.is t) ∷ [])
    ∙ sym (map_more placed_of c.deref-declared-items.result.now c.loop-declared.declared-index c.declared-item.result c.loop-declared-test.true))

pub returns : goal.returns
returns c =
    let items = c.deref-declared-items.result.now in
    ap (places (λ p. p.address) (λ p. p.target)) (c.loop-declared.invariant ∙ ap (map placed_of) (take_all c.loop-declared.declared-index items c.loop-declared-test.false ∙ c.deref-declared-items.ensures.0))
    ∙ (targets_placed c.legacies.inside.targets.items ∙ ap (λ (b : Board). legacy_targets_of b.legacy) c.legacies.view_is)

pub invariant_of-result : goal.invariant_of-result
invariant_of-result c =
    let items = c.deref-declared-items.result.now in
    subst (HasOwnAddresses place_of) (sym (c.loop-declared.invariant ∙ ap (map placed_of) (take_all c.loop-declared.declared-index items c.loop-declared-test.false ∙ c.deref-declared-items.ensures.0)))
    (own_placed c.legacies.inside.targets.items c.legacies.invariant.targets_apart)
