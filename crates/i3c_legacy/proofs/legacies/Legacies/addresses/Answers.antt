-- As many places are filled as there are rows.
use Rattle.std.proofs.Common.{ap, arith}
use Rattle.i3c_base.specs.State.{Board}
use Rattle.i3c_legacy.proofs.LegacyLaws.{address_of, counted, home_of}
use Rattle.i3c_legacy.proofs.legacies.Legacies.addresses.Goals as goal

pub returns-clause-few : goal.returns-clause-few
returns-clause-few c =
    let many = counted address_of (λ d. d.lvr) c.self.inside.targets.items c.args.self.now.legacy c.self.invariant.targets_apart (ap (λ (b : Board). b.legacy) c.self.view_is) in
    omega (arith, many, c.self.invariant.few_targets)

pub returns-clause-few_declared : goal.returns-clause-few_declared
returns-clause-few_declared c =
    let many = counted home_of (λ d. d.identity) c.self.inside.identities.items c.args.self.now.declared c.self.invariant.identities_apart (ap (λ (b : Board). b.declared) c.self.view_is) in
    omega (arith, many, c.self.invariant.few_identities)
