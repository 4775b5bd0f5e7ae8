use Rattle.std.proofs.Common.{◌≡◌, ◌++◌, drop}
use Rattle.i3c_tracks.specs.Unexpected.{marked_lines}
use Rattle.i3c_tracks.proofs.unexpected.add_lines.Given as goal

abbrev pub invariant-loop-index : goal.invariant-loop-index
invariant-loop-index l = l.numbers.items ++ marked_lines (drop l.index l.lines) (drop l.index l.marks) ≡ l.initial.numbers.items ++ marked_lines l.lines l.marks
