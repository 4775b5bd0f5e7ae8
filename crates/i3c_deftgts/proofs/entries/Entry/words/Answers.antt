use Rattle.std.proofs.Common.{rules}
use Rattle.i3c_deftgts.proofs.entries.Entry.words.Goals as goal

pub returns : goal.returns
returns c = search rules
