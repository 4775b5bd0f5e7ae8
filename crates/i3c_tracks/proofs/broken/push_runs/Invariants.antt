use Rattle.std.proofs.Common.{◌≡◌, ◌++◌, drop}
use Rattle.i3c_tracks.specs.Telling.{runs_text}
use Rattle.i3c_tracks.proofs.broken.push_runs.Given as goal

abbrev pub invariant-loop-index : goal.invariant-loop-index
invariant-loop-index l = l.text ++ runs_text l.lines (drop l.index l.runs) ≡ l.initial.text ++ runs_text l.lines l.runs
