use Rattle.std.proofs.Common.{[], List, subst}
use Rattle.i3c_explore.specs.declared.node.Node.{Node}
use Rattle.i3c_explore.specs.Layers.{ArePut}
use Rattle.i3c_explore.proofs.merged.overlapping.Goals as goal

pub returns-clause-put : goal.returns-clause-put
returns-clause-put g c = (
  c.in-Ok.layer.nodes.items,
  subst (λ (l : List (Node g.row.M.Denot)). ArePut [] l c.in-Ok.layer.nodes.items) c.in_ok-gathered.ensures.nodes c.in-Ok.ensures.put,
  c.in_ok-order.ensures,
)
