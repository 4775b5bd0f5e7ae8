use Rattle.std.proofs.Common.{◌≡◌, ◌∙◌, Some, ap, refl, subst, sym}
use Rattle.std.proofs.lemmas.Option.{get_or_from_slice_get}
use Rattle.i3c_explore.specs.Numbers.{IsSum}
use Rattle.i3c_explore.specs.declared.node.Node.{Node}
use Rattle.i3c_explore.proofs.layer.merge.Goals as goal

pub returns : goal.returns
returns g c made (held, found, places, state) orders =
    let here = c.index_mut-held.result.now in
    let same : held ≡ here = sym (c.index_mut-held.ensures.value ∙ get_or_from_slice_get c.args.nodes.now.items c.args.index held here found) in record {
      index = c.args.index;
      held = here;
      total = c.sum-held.result;
      found = found ∙ ap Some same;
      places = ap (λ (n : Node g.row.M.Denot). n.places.items) (sym same) ∙ places;
      state = ap (λ (n : Node g.row.M.Denot). n.state) (sym same) ∙ state;
      sum = subst (λ o. IsSum here.orders o c.sum-held.result) (sym orders) c.sum-held.ensures;
      is = refl;
    }
