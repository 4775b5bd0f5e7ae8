use Rattle.i3c_runner.proofs.Reaching.{script_reached}
use Rattle.i3c_runner.proofs.laws.lines_are_legal_runs.Goals as goal

pub returns : goal.returns
returns c old lines new ran begun lead is = script_reached old lines new ran begun lead is
