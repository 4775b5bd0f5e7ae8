-- A place is filled for each target.
use Rattle.std.proofs.Common.{ap, length, sym, ◌∙◌}
use Rattle.i3c_base.specs.State.{Board}
use Rattle.i3c_legacy.proofs.LegacyLaws.{address_of, counted}
use Rattle.i3c_legacy.proofs.resting.RestingLegacies.target_count.Goals as goal

pub returns-clause-count : goal.returns-clause-count
returns-clause-count c =
    ap length c.as_slice.ensures.value
    ∙ sym (counted address_of (λ d. d.lvr) c.self.inside.targets.items c.args.self.now.legacy c.self.invariant.targets_apart (ap (λ (b : Board). b.legacy) c.self.view_is))
