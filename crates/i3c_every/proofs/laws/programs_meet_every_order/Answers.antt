use Rattle.std.proofs.Common.{◌∷◌, []}
use Rattle.i3c_orders.specs.Paths.{steps_of}
use Rattle.i3c_every.proofs.Covering.{meets, only_met, tried_alike}
use Rattle.i3c_every.proofs.laws.programs_meet_every_order.Goals as goal

pub returns-clause-all : goal.returns-clause-all
returns-clause-all g c tracks program start calls tried old new is ends over =
    meets g.M.Machine.steps (g.M.Answering.answers tracks.rules) g.M.Answering.sees tracks.lines.items program start (steps_of old.path ∷ tried) [] (c.calls_try_all_runs.ensures.all tracks program start calls tried old new is ends over)

pub returns-clause-only : goal.returns-clause-only
returns-clause-only g c tracks program start calls tried old new is ends over run at =
    only_met g.M.Machine.steps (g.M.Answering.answers tracks.rules) g.M.Answering.sees tracks.lines.items program start (steps_of old.path ∷ tried) run (c.calls_try_all_runs.ensures.only tracks program start calls tried old new is ends over run at)

pub returns-clause-determined : goal.returns-clause-determined
returns-clause-determined g c tracks determined program start calls tried old new is ends over run goes =
    tried_alike g.M.Machine.steps (g.M.Answering.answers tracks.rules) g.M.Answering.sees tracks.lines.items program start (steps_of old.path ∷ tried) determined (returns-clause-all g c tracks program start calls tried old new is ends over) run goes
