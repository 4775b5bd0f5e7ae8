use Rattle.std.proofs.Common.{◌≡◌, ◌++◌, drop}
use Rattle.i3c_tracks.specs.Telling.{lines_text}
use Rattle.i3c_tracks.proofs.broken.push_lines.Given as goal

abbrev pub invariant-loop-index : goal.invariant-loop-index
invariant-loop-index l = l.text ++ lines_text l.lines (drop l.index l.numbers) ≡ l.initial.text ++ lines_text l.lines l.numbers
