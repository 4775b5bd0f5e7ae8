use Rattle.std.proofs.Common.{rules}
use Rattle.i3c_lines.proofs.naming.slot_meant.Goals as goal

pub returns-in-Legacy : goal.returns-in-Legacy
returns-in-Legacy c = search rules
