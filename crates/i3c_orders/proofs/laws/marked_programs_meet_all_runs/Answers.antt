use Rattle.i3c_orders.specs.Runs.{CanLead}
use Rattle.i3c_orders.proofs.Matching.{all_matched}
use Rattle.i3c_orders.proofs.laws.marked_programs_meet_all_runs.Goals as goal

pub returns : goal.returns
returns g c machine same followed program start = all_matched (g.M.Responder.gives machine) g.M.Responder.alike (CanLead (g.M.Responder.gives machine)) program start same followed
