use Rattle.std.proofs.Common.{rules}
use Rattle.i3c_base.proofs.identity.Bcr.capable.Goals as goal

pub returns : goal.returns
returns c = search rules
