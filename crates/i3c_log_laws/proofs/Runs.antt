-- A run behind records that are gone, step by step.
use Rattle.std.proofs.Common.{[], ◌∷◌, ap}
use Rattle.i3c_log_laws.specs.Behind.{RunsGoOnAlike, behind}
use Rattle.i3c_log_laws.proofs.Steps.{steps_go_on_alike}

-- each step goes on alike
pub runs_go_on_alike : RunsGoOnAlike
runs_go_on_alike gone old new [] [] r = ap (behind gone) r
runs_go_on_alike gone old new (event ∷ events) (reply ∷ replies) r =
    (behind gone r.0, steps_go_on_alike gone old r.0 event reply r.1, runs_go_on_alike gone r.0 new events replies r.2)
runs_go_on_alike gone old new [] (reply ∷ replies) r = absurd r
runs_go_on_alike gone old new (event ∷ events) [] r = absurd r
