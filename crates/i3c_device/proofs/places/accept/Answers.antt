use Rattle.std.proofs.Common.{rules}
use Rattle.i3c_device.proofs.places.accept.Goals as goal

pub returns-in-Join : goal.returns-in-Join
returns-in-Join c = search rules

pub returns-in-Interrupt : goal.returns-in-Interrupt
returns-in-Interrupt c = search rules
