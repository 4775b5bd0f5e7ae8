use Rattle.std.proofs.Common.{rules}
use Rattle.i3c_table.proofs.table.Table.mark_listed.Goals as goal

pub returns : goal.returns
returns c = search rules
