use Rattle.std.proofs.Common.{rules}
use Rattle.i3c_bus.proofs.bus.Bus.command_into.Goals as goal

pub returns-in_default-clause-asks : goal.returns-in_default-clause-asks
returns-in_default-clause-asks g c = search rules

pub returns-in_default-clause-carried : goal.returns-in_default-clause-carried
returns-in_default-clause-carried g c = search rules
