use Rattle.std.proofs.Common.{◌≡◌}
use Rattle.i3c_explore.specs.Queues.{nodes_left}
use Rattle.i3c_explore.proofs.gathered.gather.Given as goal

-- the nodes are those of the jobs so far
abbrev pub invariant-loop-queue : goal.invariant-loop-queue
invariant-loop-queue g l = record {
  nodes : l.gathered.nodes.items ≡ nodes_left l.yielded;
  limits : l.gathered.limits ≡ l.fn.all.limits;
}
