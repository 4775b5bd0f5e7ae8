use Rattle.std.proofs.Common.{rules}
use Rattle.i3c_deftgts.proofs.entries.List.rewrite.Goals as goal

pub fill-requires-clause-empty : goal.fill-requires-clause-empty
fill-requires-clause-empty c = search rules
