use Rattle.std.proofs.Common.{rules}
use Rattle.i3c_base.proofs.cuts.Cuts.is_lost.Goals as goal

pub returns-in-Some : goal.returns-in-Some
returns-in-Some c = search rules
