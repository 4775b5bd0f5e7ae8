use Rattle.std.proofs.Common.{rules}
use Rattle.i3c_bus.proofs.bus.Bus.copy.Goals as goal

pub returns-then-keeps : goal.returns-then-keeps
returns-then-keeps c = search rules
