use Rattle.std.proofs.Common.{rules}
use Rattle.i3c_device.proofs.places.readdress.Goals as goal

pub returns-in-Some : goal.returns-in-Some
returns-in-Some c = search rules
