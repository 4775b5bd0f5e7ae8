use Rattle.std.proofs.Common.{◌≡◌}
use Rattle.i3c_deftgts.proofs.CopyLaws.{part}
use Rattle.i3c_deftgts.proofs.entries.List.to_table.Given as goal

abbrev pub invariant-loop-entry : goal.invariant-loop-entry
invariant-loop-entry l = l.table ≡ part l.entries l.entry-index
