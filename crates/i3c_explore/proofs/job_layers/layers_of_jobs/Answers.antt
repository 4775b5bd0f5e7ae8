use Rattle.std.proofs.Common.{◌++◌, ◌∷◌, [], Result, subst, sym}
use Rattle.i3c_explore.specs.declared.layer.Layer.{Layer}
use Rattle.i3c_explore.specs.declared.stop.Stop.{Stop}
use Rattle.i3c_explore.specs.Queues.{nodes_left}
use Rattle.i3c_explore.specs.Jobs.{AreNodesOf, AreTaken}
use Rattle.i3c_explore.proofs.Merging.{nodes_more}
use Rattle.i3c_explore.proofs.Running.{job_taken}
use Rattle.i3c_explore.proofs.job_layers.layers_of_jobs.Goals as goal

pub loop-made-preserved : goal.loop-made-preserved
loop-made-preserved g c =
    let layers = c.loop-made.yielded in let layer = c.in-Ok.layer in let new = nodes_left c.add.new.self.queues.items in
    let limits = c.args.limits in let left = c.add.new.self.limits in
    let was = c.loop-made.invariant in let done = c.in-Ok-add.ensures in record {
      nodes = subst (λ (made : Result (Layer g.row.M.Denot) Stop). AreNodesOf (layers ++ made ∷ []) new) (sym c.in-Ok.is)
          (nodes_more layers layer (nodes_left c.loop-made.all.queues.items) new was.nodes done.nodes);
      taken = subst (λ (made : Result (Layer g.row.M.Denot) Stop). AreTaken limits left (layers ++ made ∷ [])) (sym c.in-Ok.is)
          (job_taken limits c.loop-made.all.limits left layers layer was.taken done.steps done.states);
    }
