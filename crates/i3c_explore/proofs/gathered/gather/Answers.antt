use Rattle.std.proofs.Common.{◌++◌, ◌∙◌, List, ap, sym}
use Rattle.i3c_explore.specs.declared.node.Node.{Node}
use Rattle.i3c_explore.proofs.Queues.{left_more}
use Rattle.i3c_explore.proofs.gathered.gather.Goals as goal

pub loop-queue-preserved : goal.loop-queue-preserved
loop-queue-preserved g c =
    let queue = c.in-Some.queue in
    let was = c.loop-queue.invariant in record {
      nodes = c.in_ok-add.ensures.nodes ∙ ap (λ (l : List (Node g.row.M.Denot)). l ++ queue.nodes.items) was.nodes ∙ sym (left_more c.loop-queue.yielded queue);
      limits = c.in_ok-add.ensures.limits ∙ was.limits;
    }
