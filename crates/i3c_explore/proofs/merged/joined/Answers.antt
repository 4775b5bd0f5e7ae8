use Rattle.std.proofs.Common.{[], refl}
use Rattle.i3c_explore.specs.Queues.{nodes_left}
use Rattle.i3c_explore.proofs.Following.{put_first}
use Rattle.i3c_explore.proofs.merged.joined.Goals as goal

pub returns-clause-put : goal.returns-clause-put
returns-clause-put g c =
    let nodes = nodes_left c.args.all.queues.items in
    (nodes, put_first [] nodes refl, c.in_ok-nodes.ensures)
