use Rattle.std.proofs.Common.{rules}
use Rattle.i3c_base.proofs.identity.Identity.from_number.Goals as goal

pub returns-clause-same : goal.returns-clause-same
returns-clause-same c = search rules
