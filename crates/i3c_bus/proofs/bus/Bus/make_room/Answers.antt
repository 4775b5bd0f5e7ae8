use Rattle.std.proofs.Common.{rules}
use Rattle.i3c_bus.proofs.bus.Bus.make_room.Goals as goal

pub returns-clause-made : goal.returns-clause-made
returns-clause-made c = search rules
