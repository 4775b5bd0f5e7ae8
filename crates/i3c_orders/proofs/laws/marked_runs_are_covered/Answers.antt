use Rattle.i3c_orders.proofs.Marking.{all_covered}
use Rattle.i3c_orders.proofs.laws.marked_runs_are_covered.Goals as goal

pub returns : goal.returns
returns g c machine program start = all_covered (g.M.Responder.gives machine) g.M.Responder.alike program start
