use Rattle.i3c_orders.proofs.Calling.{never_differs, never_unfinished}
use Rattle.i3c_orders.proofs.laws.determined_programs_are_served.Goals as goal

pub returns-clause-lines : goal.returns-clause-lines
returns-clause-lines g c machine program = never_differs (g.M.Responder.gives machine) program (g.M.Responder.fails machine)

pub returns-clause-ends : goal.returns-clause-ends
returns-clause-ends g c machine = never_unfinished (g.M.Responder.gives machine)
