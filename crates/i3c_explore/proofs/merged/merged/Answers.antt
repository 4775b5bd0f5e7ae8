use Rattle.std.proofs.Common.{◌∙◌, ◌≡◌, IfSome, Some, ap, arith, length, refl, subst}
use Rattle.std.specs.List.{Contains, slice_get}
use Rattle.std.proofs.lemmas.Iterator.Adapters.{YieldsList-from_vec}
use Rattle.std.proofs.lemmas.Iterator.Consumers.{YieldsList-turn}
use Rattle.std.proofs.lemmas.Option.{slice_get_read}
use Rattle.i3c_explore.specs.declared.twin_pair.TwinPair.{TwinPair}
use Rattle.i3c_explore.proofs.Merging.{merged_more, merged_none, placed_before}
use Rattle.i3c_explore.specs.declared.limits.Limits.{Limits}
use Rattle.i3c_explore.proofs.Running.{within_more}
use Rattle.i3c_explore.proofs.merged.merged.Goals as goal

pub loop-node-init : goal.loop-node-init
loop-node-init g c =
    let none = ap length c.new-layer.ensures.nodes in let limits = c.new-layer.ensures.limits in record {
      put = merged_none c.args.nodes.items c.new-layer.result.nodes.items c.new-places.result.items c.new-layer.ensures.nodes c.new-places.ensures.items;
      within = record { steps = let e = ap (λ (l : Limits). l.steps) limits in omega arith; states = ap (λ (l : Limits). l.states) limits; narrow = omega arith };
    }

pub put_at-requires : goal.put_at-requires
put_at-requires g c =
    let all = c.args.nodes.items in let gives = c.into_iter-node-iterator.ensures.into_iter_gives in let nodes = c.loop-node.yielded in let node = c.in-Some.node in
    let turn = YieldsList-turn (YieldsList-from_vec {s = c.into_iter-node-iterator.result} all gives.0 (gives.1 ∙ c.args.nodes.ok.0)) nodes c.loop-node.node-iterator c.loop-node.yielded_by c.next.result c.next.new.self node c.in-Some.is c.next.ensures.steps in
    let here : slice_get all (length nodes) ≡ Some node = slice_get_read all (length all) (length nodes) node refl turn.0 turn.1 in
    let before = c.place_before-before.result in let twins = c.args.twins.now in let places = c.loop-node.places.items in
    placed_before all nodes c.loop-node.layer.nodes.items places node twins before c.loop-node.invariant.put here c.requires
    (subst (λ l. IfSome before (λ p. (twin : TwinPair) × Contains twins twin × (twin.later ≡ length l) × (slice_get l twin.before ≡ Some p))) c.deref.ensures.value c.place_before-before.ensures)

pub loop-node-preserved : goal.loop-node-preserved
loop-node-preserved g c =
    let all = c.args.nodes.items in let gives = c.into_iter-node-iterator.ensures.into_iter_gives in let nodes = c.loop-node.yielded in let node = c.in-Some.node in
    let turn = YieldsList-turn (YieldsList-from_vec {s = c.into_iter-node-iterator.result} all gives.0 (gives.1 ∙ c.args.nodes.ok.0)) nodes c.loop-node.node-iterator c.loop-node.yielded_by c.next.result c.next.new.self node c.in-Some.is c.next.ensures.steps in
    let here : slice_get all (length nodes) ≡ Some node = slice_get_read all (length all) (length nodes) node refl turn.0 turn.1 in
    record {
      put = merged_more all nodes c.loop-node.layer.nodes.items c.put_at.new.layer.nodes.items c.loop-node.places.items c.note.new.places.items node c.in-Ok.place
          c.loop-node.invariant.put here c.in-Ok.ensures.put c.in-Ok.ensures.at c.in_ok-note.ensures;
      within = within_more c.args.limits c.loop-node.layer c.put_at.new.layer 0 0 c.loop-node.invariant.within c.in-Ok.ensures.charged;
    }
