use Rattle.std.proofs.Common.{◌∙◌, ap, arith, length, refl, sym}
use Rattle.std.proofs.lemmas.List.{length-set}
use Rattle.i3c_table.proofs.Placed.{each_apart, each_undeclared, each_usable, few, placed_all, placed_more, placed_none}
use Rattle.i3c_table.proofs.StoredLaws.{length-stored, small_whole}
use Rattle.i3c_table.proofs.table.Table.by_address.Goals as goal

pub loop-address-init : goal.loop-address-init
loop-address-init c = rw (ap (λ t. t.given) (sym c.self.view_is)) (refl, placed_none c.self.inside.held.0 c.self.inside.kept.0 c.self.inside.registers c.self.inside.numbers (small_whole _ _ _ c.self.invariant.0))

pub loop-address-preserved : goal.loop-address-preserved
loop-address-preserved c =
    rw c.get.ensures.same (length-set c.loop-address.rows c.in-Some.address c.row_of.result ∙ c.loop-address.invariant.0, placed_more c.args.self.now.given c.loop-address.left.0 c.without-left.result.0 c.in-Some.address c.loop-address.rows c.row_of.result c.loop-address.invariant.1 (omega (arith, c.loop-address.invariant.0)) c.without-left.ensures.others c.row_of.ensures.found)

pub returns-clause-rows : goal.returns-clause-rows
returns-clause-rows c =
    let long = ap (λ t. length t.given) (sym c.self.view_is) ∙ length-stored _ _ _ _ in
    placed_all c.args.self.now.given c.loop-address.left.0 c.loop-address.rows c.loop-address.invariant.1 c.in_default.ensures (omega (arith, long, c.loop-address.invariant.0))

pub returns-clause-addressed : goal.returns-clause-addressed
returns-clause-addressed c a = (c.loop-address.invariant.1 a (c.in_default.ensures a)).1

pub returns-clause-few : goal.returns-clause-few
returns-clause-few c = rw (ap (λ t. t.given) (sym c.self.view_is)) (few _ _ _ _ _ c.self.invariant.0)

pub returns-clause-usable : goal.returns-clause-usable
returns-clause-usable c a = rw (ap (λ t. t.given) (sym c.self.view_is)) (each_usable _ _ _ _ _ c.self.invariant.0 a)

pub returns-clause-apart : goal.returns-clause-apart
returns-clause-apart c a = rw (ap (λ t. t.given) (sym c.self.view_is), ap (λ t. t.legacy) (sym c.self.view_is)) (each_apart _ _ _ _ _ c.self.invariant.0 a)

pub loop-address-smaller : goal.loop-address-smaller
loop-address-smaller c = c.without-left.ensures.less c.in-Some.ensures.0

pub returns-clause-undeclared : goal.returns-clause-undeclared
returns-clause-undeclared c a = rw (ap (λ t. t.given) (sym c.self.view_is), ap (λ t. t.declared) (sym c.self.view_is)) (each_undeclared _ _ _ _ _ c.self.invariant.0 a)
