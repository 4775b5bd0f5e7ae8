use Rattle.i3c_explore.specs.Queues.{nodes_left}
use Rattle.i3c_explore.specs.Jobs.{AreNodesOf, AreTaken}
use Rattle.i3c_explore.proofs.job_layers.layers_of_jobs.Given as goal

-- the nodes are those of the layers so far, and their steps are taken
abbrev pub invariant-loop-made : goal.invariant-loop-made
invariant-loop-made g l = record {
  nodes : AreNodesOf l.yielded (nodes_left l.all.queues.items);
  taken : AreTaken l.fn.limits l.all.limits l.yielded;
}
