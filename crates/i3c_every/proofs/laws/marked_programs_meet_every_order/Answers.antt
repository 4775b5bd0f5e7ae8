use Rattle.std.proofs.Common.{◌∷◌}
use Rattle.i3c_orders.specs.Paths.{steps_of}
use Rattle.i3c_orders.proofs.Matching.{all_matched}
use Rattle.i3c_every.specs.Every.{MayMeet}
use Rattle.i3c_every.specs.Meeting.{AreMet, HasSameState}
use Rattle.i3c_every.proofs.Leaving.{all_followed, all_meet, preorder}
use Rattle.i3c_every.proofs.laws.marked_programs_meet_every_order.Goals as goal

pub returns-clause-covered : goal.returns-clause-covered
returns-clause-covered g c tracks program start turns tried path is over why =
    all_meet g.M.Machine.steps (g.M.Answering.answers tracks.rules) g.M.Answering.sees tracks.lines.items program start (steps_of path ∷ tried) (c.marked_runs_are_covered.ensures tracks program start turns tried path is over why)

pub returns-clause-determined : goal.returns-clause-determined
returns-clause-determined g c tracks determined program start turns tried path is over why run goes =
    let steps = g.M.Machine.steps in
    let answers = g.M.Answering.answers tracks.rules in
    let sees = g.M.Answering.sees in
    let lines = tracks.lines.items in
    all_matched (AreMet steps answers sees lines) HasSameState (MayMeet steps answers sees lines) program start preorder (all_followed steps answers sees lines program start tried determined) turns tried path is over why run goes
