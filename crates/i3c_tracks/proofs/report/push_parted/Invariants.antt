use Rattle.std.proofs.Common.{◌≡◌, ◌++◌, drop, true}
use Rattle.i3c_tracks.specs.Telling.{parted_text}
use Rattle.i3c_tracks.proofs.report.push_parted.Given as goal

abbrev pub invariant-loop-index : goal.invariant-loop-index
invariant-loop-index l = l.text ++ parted_text l.lines l.is_first (drop l.index l.runs) ≡ l.initial.text ++ parted_text l.lines true l.runs
