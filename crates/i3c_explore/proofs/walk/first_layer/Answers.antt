use Rattle.std.proofs.Common.{◌∙◌, ◌∷◌, ◌++◌, [], List, Some, ap, refl}
use Rattle.i3c_explore.specs.declared.node.Node.{Node}
use Rattle.i3c_explore.proofs.walk.first_layer.Goals as goal

pub returns-clause-alone : goal.returns-clause-alone
returns-clause-alone g c =
    let node : Node g.row.M.Denot = record { state = c.args.start; places = c.new.result; order = c.new-2.result; orders = Some 1 } in
    (node, c.in_ok-push.ensures.items ∙ ap (λ (l : List (Node g.row.M.Denot)). l ++ node ∷ []) c.new-layer.ensures.nodes, refl, c.new-2.ensures.items, refl)
