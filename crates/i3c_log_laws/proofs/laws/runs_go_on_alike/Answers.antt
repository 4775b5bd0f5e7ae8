-- Step by step.
use Rattle.i3c_log_laws.proofs.Runs.{runs_go_on_alike}
use Rattle.i3c_log_laws.proofs.laws.runs_go_on_alike.Goals as goal

pub returns : goal.returns
returns c gone old new events replies r = runs_go_on_alike gone old new events replies r
