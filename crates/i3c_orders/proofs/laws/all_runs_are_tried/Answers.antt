use Rattle.i3c_orders.proofs.Trying.{all_tried, only_tried}
use Rattle.i3c_orders.proofs.laws.all_runs_are_tried.Goals as goal

pub returns-clause-all : goal.returns-clause-all
returns-clause-all g c machine program start = all_tried (g.M.Responder.gives machine) program start

pub returns-clause-only : goal.returns-clause-only
returns-clause-only g c machine program start = only_tried (g.M.Responder.gives machine) program start
