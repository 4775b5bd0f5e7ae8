use Rattle.std.proofs.Common.{rules}
use Rattle.i3c_bus.proofs.bus.Bus.may_ask_role.Goals as goal

pub returns : goal.returns
returns c = search rules
