use Rattle.std.proofs.Common.{rules}
use Rattle.i3c_bus.proofs.bus.Bus.has_room.Goals as goal

pub returns : goal.returns
returns c = search rules
