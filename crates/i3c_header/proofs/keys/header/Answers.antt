use Rattle.std.proofs.Common.{rules}
use Rattle.i3c_header.proofs.keys.header.Goals as goal

pub returns-clause-read : goal.returns-clause-read
returns-clause-read c = search rules
