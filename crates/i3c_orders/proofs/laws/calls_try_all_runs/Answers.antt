use Rattle.i3c_orders.proofs.Calling.{calls_only, calls_tried}
use Rattle.i3c_orders.proofs.laws.calls_try_all_runs.Goals as goal

pub returns-clause-all : goal.returns-clause-all
returns-clause-all g c machine = calls_tried (g.M.Responder.gives machine)

pub returns-clause-only : goal.returns-clause-only
returns-clause-only g c machine = calls_only (g.M.Responder.gives machine)
