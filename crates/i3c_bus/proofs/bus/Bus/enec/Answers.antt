use Rattle.std.proofs.Common.{rules}
use Rattle.i3c_bus.proofs.bus.Bus.enec.Goals as goal

pub returns-clause-carried : goal.returns-clause-carried
returns-clause-carried g c = search rules
