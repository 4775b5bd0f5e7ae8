-- Each round takes a hearer away, and the active controller never hears.
use Rattle.i3c_step.proofs.Ending.{sessions_end}
use Rattle.i3c_step.proofs.laws.sessions_end.Goals as goal

pub returns : goal.returns
returns c main legacy events replies mid legal busy session answers new all many run = sessions_end main legacy events replies mid legal busy session answers new all many run
