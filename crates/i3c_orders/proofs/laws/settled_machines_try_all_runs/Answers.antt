use Rattle.std.proofs.Common.{◌∷◌}
use Rattle.i3c_orders.specs.Paths.{steps_of}
use Rattle.i3c_orders.proofs.Calling.{calls_only, calls_tried}
use Rattle.i3c_orders.proofs.Trying.{exactly}
use Rattle.i3c_orders.proofs.laws.settled_machines_try_all_runs.Goals as goal

pub returns : goal.returns
returns g c machine settled program start calls tried old new is ends over =
    exactly (g.M.Responder.gives machine) program start settled (steps_of old.path ∷ tried) (calls_tried (g.M.Responder.gives machine) program start calls tried old new is ends over) (calls_only (g.M.Responder.gives machine) program start calls tried old new is ends over)
