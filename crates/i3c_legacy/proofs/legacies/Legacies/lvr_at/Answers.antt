use Rattle.std.proofs.Common.{ap}
use Rattle.i3c_base.specs.State.{Board}
use Rattle.i3c_legacy.proofs.LegacyLaws.{address_of, found, missing, long}
use Rattle.i3c_legacy.proofs.legacies.Legacies.lvr_at.Goals as goal

pub returns-in-Some : goal.returns-in-Some
returns-in-Some c =
    let view = ap (λ (b : Board). b.legacy) c.self.view_is in
    record {
      same = rw c.as_slice-targets.ensures.value (found address_of (λ d. d.lvr) c.self.inside.targets.items c.args.self.now.legacy c.in-Some.index c.args.address c.index-targets-index.result c.self.invariant.targets_apart view
          (rw c.as_slice-targets.ensures.value at c.in-Some.ensures.0) (rw c.as_slice-targets.ensures.value at c.in-Some.ensures.1));
      all_places = long address_of (λ d. d.lvr) c.self.inside.targets.items c.args.self.now.legacy view;
    }

pub returns-in-None : goal.returns-in-None
returns-in-None c =
    let view = ap (λ (b : Board). b.legacy) c.self.view_is in
    record {
      same = missing address_of (λ d. d.lvr) c.self.inside.targets.items c.args.self.now.legacy c.args.address c.self.invariant.targets_apart view (rw c.as_slice-targets.ensures.value at c.in-None.ensures);
      all_places = long address_of (λ d. d.lvr) c.self.inside.targets.items c.args.self.now.legacy view;
    }
