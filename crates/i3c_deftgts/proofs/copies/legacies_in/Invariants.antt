use Rattle.std.proofs.Common.{◌≡◌, take}
use Rattle.i3c_deftgts.proofs.CopyLaws.{told_by}
use Rattle.i3c_deftgts.proofs.copies.legacies_in.Given as goal

abbrev pub invariant-loop-entry : goal.invariant-loop-entry
invariant-loop-entry l = l.legacies ≡ told_by (take l.entry-index l.entries)
