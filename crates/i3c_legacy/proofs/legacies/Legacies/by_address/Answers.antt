use Rattle.std.proofs.Common.{ap, arith, sym}
use Rattle.i3c_base.specs.State.{Board}
use Rattle.i3c_legacy.proofs.LegacyLaws.{address_of, counted, first_all, first_more, static_alone}
use Rattle.i3c_legacy.proofs.RowLaws.{places-nil}
use Rattle.i3c_legacy.proofs.legacies.Legacies.by_address.Goals as goal

pub loop-target-init : goal.loop-target-init
loop-target-init c = sym (places-nil address_of (λ d. d.lvr))

pub loop-target-preserved : goal.loop-target-preserved
loop-target-preserved c =
    rw c.get.ensures.same (first_more address_of (λ d. d.lvr) c.deref-target-items.result.now c.loop-target.lvrs c.loop-target.target-index c.target-item.result (rw c.deref-target-items.ensures.0 c.self.invariant.targets_apart)
    c.loop-target-test.true c.target-item.is c.loop-target.invariant)

pub returns-clause-same : goal.returns-clause-same
returns-clause-same c =
    first_all address_of (λ d. d.lvr) c.self.inside.targets.items c.args.self.now.legacy c.loop-target.lvrs c.loop-target.target-index (ap (λ (b : Board). b.legacy) c.self.view_is) (rw c.deref-target-items.ensures.0 at c.loop-target-test.false)
    (rw c.deref-target-items.ensures.0 at c.loop-target.invariant)

pub returns-clause-few : goal.returns-clause-few
returns-clause-few c =
    let many = counted address_of (λ d. d.lvr) c.self.inside.targets.items c.args.self.now.legacy c.self.invariant.targets_apart (ap (λ (b : Board). b.legacy) c.self.view_is) in
    let same = c.deref-target-items.ensures.0 in
    let most = rw same at c.deref-target-items.ensures.1 in
    omega (arith, many, most)

pub returns-clause-static_alone : goal.returns-clause-static_alone
returns-clause-static_alone c a =
    static_alone address_of (λ d. d.lvr) c.self.inside.targets.items c.args.self.now.legacy a c.self.invariant.targets_apart c.self.invariant.static (ap (λ (b : Board). b.legacy) c.self.view_is)
