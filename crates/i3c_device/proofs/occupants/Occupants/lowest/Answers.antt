-- The first in which it is found, or none.
use Rattle.std.proofs.Common.{◌∙◌, ◌<◌, ap, arith, length, None, subst, sym}
use Rattle.std.proofs.lemmas.List.{get_or_default}
use Rattle.i3c_device.specs.Finding.{IsLowestFound, IsNowhere}
use Rattle.i3c_device.proofs.FindLaws.{found_nowhere, lowest_found, searches_more, searches_none}
use Rattle.i3c_device.proofs.occupants.Occupants.lowest.Goals as goal

pub loop-index-init : goal.loop-index-init
loop-index-init g c = searches_none (g.S.Sought.finds c.args.sought.now) c.args.among c.self.inside.places

pub loop-index-preserved : goal.loop-index-preserved
loop-index-preserved g c =
    let low : c.in-Some.index < length c.self.inside.places = omega (arith, c.self.invariant.0, c.in-Some.ensures.taken.0) in
    searches_more (g.S.Sought.finds c.args.sought.now) c.args.among c.loop-index.left c.take_lowest.new.self c.self.inside.places c.in-Some.index c.loop-index.invariant c.in-Some.ensures.taken.1 c.in-Some.ensures.taken.3
    (ap (g.S.Sought.finds c.args.sought.now c.in-Some.index) (sym (get_or_default c.self.inside.places c.in-Some.index c.index-self-index.result None low)) ∙ (sym c.is_found.ensures ∙ c.if-is_found.false))

pub returns-then-is_found : goal.returns-then-is_found
returns-then-is_found g c =
    let low : c.in-Some.index < length c.self.inside.places = omega (arith, c.self.invariant.0, c.in-Some.ensures.taken.0) in
    subst (λ places. IsLowestFound (g.S.Sought.finds c.args.sought.now) c.args.among places c.from_index.result) c.self.view_is
    (subst (IsLowestFound (g.S.Sought.finds c.args.sought.now) c.args.among c.self.inside.places) (sym c.from_index.ensures)
    (lowest_found (g.S.Sought.finds c.args.sought.now) c.args.among c.loop-index.left c.self.inside.places c.in-Some.index c.loop-index.invariant c.in-Some.ensures.taken.0 c.in-Some.ensures.taken.1 c.in-Some.ensures.taken.2
    (ap (g.S.Sought.finds c.args.sought.now c.in-Some.index) (sym (get_or_default c.self.inside.places c.in-Some.index c.index-self-index.result None low)) ∙ (sym c.is_found.ensures ∙ c.if-is_found.true))))

pub returns : goal.returns
returns g c =
    subst (IsNowhere (g.S.Sought.finds c.args.sought.now) c.args.among) c.self.view_is
    (found_nowhere (g.S.Sought.finds c.args.sought.now) c.args.among c.loop-index.left c.self.inside.places c.loop-index.invariant c.in_default.ensures.taken)
