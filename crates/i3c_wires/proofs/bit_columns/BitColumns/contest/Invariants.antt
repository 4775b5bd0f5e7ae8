use Rattle.std.proofs.Common.{slice_index}
use Rattle.i3c_wires.proofs.KeptColumns.{Contesting}
use Rattle.i3c_wires.proofs.bit_columns.BitColumns.contest.Given as goal

-- the turns that are left
abbrev pub invariant-loop-turns : goal.invariant-loop-turns
invariant-loop-turns l = Contesting (slice_index l.self.numbers) l.fn.among l.turns l.bits l.still

abbrev pub decreases-loop-turns : goal.decreases-loop-turns
decreases-loop-turns l = l.turns
