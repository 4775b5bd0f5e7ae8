use Rattle.i3c_orders.proofs.Turning.{begin_alike}
use Rattle.i3c_orders.proofs.laws.next_runs_begin_alike.Goals as goal

pub returns : goal.returns
returns g c old new back = begin_alike old new back
