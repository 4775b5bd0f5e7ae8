use Rattle.std.proofs.Common.{rules}
use Rattle.i3c_bus.proofs.hand.Session.holder.Goals as goal

pub returns : goal.returns
returns c = search rules
