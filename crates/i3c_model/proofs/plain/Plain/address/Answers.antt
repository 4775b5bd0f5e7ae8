use Rattle.std.proofs.Common.{rules}
use Rattle.i3c_model.proofs.plain.Plain.address.Goals as goal

pub returns-in-Some : goal.returns-in-Some
returns-in-Some c = search rules
