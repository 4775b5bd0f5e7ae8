use Rattle.std.proofs.Common.{◌≡◌, ◌∙◌, ◌*◌, ◌<◌, ℕ, IfOk, true, ap, rules, subst, sym}
use Rattle.i3c_base.specs.declared.range.TheConstants.{SLOTS}
use Rattle.i3c_stress.specs.Devices.{HasPosted}
use Rattle.i3c_stress.specs.Reporting.{IsOneSession}
use Rattle.i3c_stress.proofs.Reported.{counts_bus, posted_by}
use Rattle.i3c_stress.proofs.stressing.stress_with.Goals as goal

pub returns-clause-tried : goal.returns-clause-tried
returns-clause-tried g c = subst (λ tried. IfOk c.report.result (λ r. r.tried ≡ tried)) (ap (λ devices. devices * c.args.posts) c.from.ensures) c.report.ensures.tried

pub returns-clause-counted : goal.returns-clause-counted
returns-clause-counted g c =
    let counted = c.in_ok-counted.ensures in
    let report = c.report.ensures in
    let served : c.is_served.result ≡ true = search rules in
    let posted : c.have_posted.result ≡ true = search rules in
    let found = λ (slot : ℕ) (below : slot < SLOTS). subst (λ raises. HasPosted c.args.devices c.args.posts slot raises) (counted.by_slot slot below) (c.have_posted.ensures posted slot below) in
    let by = posted_by c.args.devices c.args.posts _ (c.in_ok-entered.ensures (search rules)) found in
    counts_bus c.report.result c.args.devices c.args.posts (c.from.result * c.args.posts) _ _ _ _ c.frames-before.result _ _ _ _ (subst IsOneSession (sym c.frames-before.ensures) c.in_ok-bus.ensures) (sym c.frames-after.ensures ∙ c.is_served.ensures served) c.in_ok-closed.ensures by
    counted.accepted counted.refused counted.recorded counted.waiting report.tried report.taken report.turned_away report.recorded report.waiting
