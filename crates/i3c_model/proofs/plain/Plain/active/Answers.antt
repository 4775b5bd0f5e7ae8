use Rattle.std.proofs.Common.{rules}
use Rattle.i3c_model.proofs.plain.Plain.active.Goals as goal

pub returns : goal.returns
returns c = search rules
