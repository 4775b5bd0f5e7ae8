use Rattle.i3c_explore.proofs.Totals.{total_more}
use Rattle.i3c_explore.proofs.walk.total.Goals as goal

pub loop-node-preserved : goal.loop-node-preserved
loop-node-preserved g c share shared =
    total_more c.args.nodes.now c.loop-node.node-index c.node-item.result c.loop-node.orders c.sum-orders.result c.loop-node-test.true c.node-item.is c.sum-orders.ensures share shared (c.loop-node.invariant share shared)
