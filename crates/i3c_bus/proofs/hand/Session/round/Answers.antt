use Rattle.std.proofs.Common.{rules}
use Rattle.i3c_bus.proofs.hand.Session.round.Goals as goal

pub returns : goal.returns
returns g c = search rules
