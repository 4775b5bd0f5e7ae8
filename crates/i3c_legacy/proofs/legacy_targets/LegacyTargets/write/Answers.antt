-- The target at the address, where there is one.
use Rattle.std.proofs.Common.{refl}
use Rattle.std.proofs.lemmas.List.{length-set}
use Rattle.i3c_legacy.proofs.WriteLaws.{own_set, refilled, target_missing, view_same, view_set}
use Rattle.i3c_legacy.proofs.legacy_targets.LegacyTargets.write.Goals as goal

pub invariant_of-self : goal.invariant_of-self
invariant_of-self c =
    rw (c.deref_mut.ensures.value, refilled c.self.inside.placed.items _ (length-set c.self.inside.placed.items c.in-Some.index _))
    (own_set c.self.inside.placed.items c.in-Some.index _ c.index-deref_mut-index.result c.self.invariant (rw c.as_slice.ensures.value at c.in-Some.ensures.0) refl)

pub returns-in-Some : goal.returns-in-Some
returns-in-Some c =
    rw (c.deref_mut.ensures.value, refilled c.self.inside.placed.items _ (length-set c.self.inside.placed.items c.in-Some.index _))
    (view_set c.self.inside.placed.items c.args.self.now c.in-Some.index c.args.address _ c.index-deref_mut-index.result c.args.bytes.now c.self.invariant c.self.view_is
    (rw c.as_slice.ensures.value at c.in-Some.ensures.0) (rw c.as_slice.ensures.value at c.in-Some.ensures.1) refl (rw c.deref_mut.ensures.value at c.write.ensures))

pub returns-in_default : goal.returns-in_default
returns-in_default c =
    view_same c.args.self.now c.args.address c.args.bytes.now
    (target_missing c.self.inside.placed.items c.args.self.now c.args.address c.self.invariant c.self.view_is (rw c.as_slice.ensures.value at c.in_default.ensures))
