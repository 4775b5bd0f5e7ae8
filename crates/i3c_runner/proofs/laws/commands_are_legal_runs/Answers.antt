use Rattle.i3c_runner.proofs.Reaching.{reached}
use Rattle.i3c_runner.proofs.laws.commands_are_legal_runs.Goals as goal

pub returns : goal.returns
returns c old lines new ran begun lead is = reached old lines new ran begun lead is
