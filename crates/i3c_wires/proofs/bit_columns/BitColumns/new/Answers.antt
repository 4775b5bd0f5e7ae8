-- Every word is 0.
use Rattle.std.proofs.Common.{refl}
use Rattle.i3c_wires.proofs.KeptColumns.{turned_none}
use Rattle.i3c_wires.proofs.bit_columns.BitColumns.new.Goals as goal

pub returns-clause-turned : goal.returns-clause-turned
returns-clause-turned c = turned_none _ refl refl
