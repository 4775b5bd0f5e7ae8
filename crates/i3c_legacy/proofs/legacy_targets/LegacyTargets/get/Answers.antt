use Rattle.i3c_legacy.proofs.WriteLaws.{target_found, target_missing}
use Rattle.i3c_legacy.proofs.legacy_targets.LegacyTargets.get.Goals as goal

pub returns-in-Some : goal.returns-in-Some
returns-in-Some c =
    rw c.as_slice-placed.ensures.value (target_found c.self.inside.placed.items c.args.self.now c.in-Some.index c.args.address c.index-placed-index.result c.self.invariant c.self.view_is
    (rw c.as_slice-placed.ensures.value at c.in-Some.ensures.0) (rw c.as_slice-placed.ensures.value at c.in-Some.ensures.1))

pub returns-in-None : goal.returns-in-None
returns-in-None c = target_missing c.self.inside.placed.items c.args.self.now c.args.address c.self.invariant c.self.view_is (rw c.as_slice-placed.ensures.value at c.in-None.ensures)
