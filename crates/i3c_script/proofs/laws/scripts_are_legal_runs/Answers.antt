use Rattle.i3c_script.proofs.Reaching.{reached}
use Rattle.i3c_script.proofs.laws.scripts_are_legal_runs.Goals as goal

pub returns : goal.returns
returns c old commands new ran begun lead is = reached old commands new ran begun lead is
