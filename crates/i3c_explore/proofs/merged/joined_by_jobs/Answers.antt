use Rattle.i3c_explore.specs.Queues.{nodes_left}
use Rattle.i3c_explore.proofs.Merging.{joined_in_order}
use Rattle.i3c_explore.proofs.merged.joined_by_jobs.Goals as goal

pub returns-then-overlap-clause-joined : goal.returns-then-overlap-clause-joined
returns-then-overlap-clause-joined g c = joined_in_order c.args.layers.items (nodes_left c.in-Ok.all.queues.items) c.overlapping.result c.in-Ok.ensures.nodes c.overlapping.ensures.put

pub returns-else-overlap-clause-joined : goal.returns-else-overlap-clause-joined
returns-else-overlap-clause-joined g c = joined_in_order c.args.layers.items (nodes_left c.in-Ok.all.queues.items) c.joined.result c.in-Ok.ensures.nodes c.joined.ensures.put
