-- No test and no part of a frame reads the log.
use Rattle.i3c_log_laws.proofs.Steps.{steps_go_on_alike}
use Rattle.i3c_log_laws.proofs.laws.steps_go_on_alike.Goals as goal

pub returns : goal.returns
returns c gone old new event reply h = steps_go_on_alike gone old new event reply h
