use Rattle.std.proofs.Common.{◌++◌, ◌∙◌, List, ap}
use Rattle.i3c_explore.specs.declared.node.Node.{Node}
use Rattle.i3c_explore.specs.Queues.{nodes_left}
use Rattle.i3c_explore.proofs.Queues.{left_more}
use Rattle.i3c_explore.proofs.job_layers.JobLayers.add.Goals as goal

pub returns-in-Ok-clause-nodes : goal.returns-in-Ok-clause-nodes
returns-in-Ok-clause-nodes g c =
    let queues = c.args.self.now.queues.items in
    ap nodes_left c.in-Ok.ensures.items ∙ left_more queues c.new.result ∙ ap (λ (l : List (Node g.row.M.Denot)). nodes_left queues ++ l) (c.new.ensures ∙ ap (λ v. v.items) c.taken_apart-nodes.ensures.nodes)
