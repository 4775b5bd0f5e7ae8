use Rattle.std.proofs.Common.{◌∙◌, IfSome, ap, arith, inr, length, refl, rules, subst}
use Rattle.std.proofs.lemmas.List.{length-set}
use Rattle.i3c_explore.specs.Layers.{IsAlikeAt}
use Rattle.i3c_explore.proofs.Merging.{alike_kept, pushed_at}
use Rattle.i3c_explore.proofs.merged.put_at.Goals as goal

pub returns-in-Some-clause-at : goal.returns-in-Some-clause-at
returns-in-Some-clause-at g c =
    let old = c.args.layer.now.nodes.items in let node = c.args.node in let place = c.in-Some.place in
    let here = subst (λ at. IfSome at (λ k. IsAlikeAt old k node.places.items node.state)) c.in-Some.is c.requires in
    alike_kept old c.merge.new.nodes.items node (inr (c.merge.ensures node here refl)) place node.places.items node.state here

pub returns-clause-at : goal.returns-clause-at
returns-clause-at g c = pushed_at c.args.layer.now.nodes.items c.push_behind.new.layer.nodes.items c.args.node c.len-place.result c.in_ok-push_behind.ensures.nodes (let e = c.len-place.ensures in search rules)

pub returns-in-Some-clause-charged : goal.returns-in-Some-clause-charged
returns-in-Some-clause-charged g c =
    let old = c.args.layer.now.nodes.items in let node = c.args.node in
    let here = subst (λ at. IfSome at (λ k. IsAlikeAt old k node.places.items node.state)) c.in-Some.is c.requires in
    let merged = c.merge.ensures node here refl in
    let same = ap length merged.is ∙ length-set old merged.index (record merged.held { orders = merged.total }) in record { steps = omega arith; states = refl; narrow = λ le. omega arith }
