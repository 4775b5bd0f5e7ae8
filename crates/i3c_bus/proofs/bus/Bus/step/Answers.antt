use Rattle.std.proofs.Common.{rules}
use Rattle.i3c_bus.proofs.bus.Bus.step.Goals as goal

pub returns-in-Ok-drop_off : goal.returns-in-Ok-drop_off
returns-in-Ok-drop_off g c = search rules
