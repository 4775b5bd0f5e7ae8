use Rattle.std.proofs.Common.{◌≡◌, ◌++◌, List, reverse, take}
use Rattle.i3c_tracks.specs.declared.course.Run.{Run}
use Rattle.i3c_tracks.specs.Courses.{ArePlaces, AreRuns}
use Rattle.i3c_tracks.proofs.course.add_block.Given as goal

abbrev pub invariant-loop-turn : goal.invariant-loop-turn
invariant-loop-turn l =
    ArePlaces l.block (reverse (take l.turn-index l.turns)) l.places.items
    × ((own : List Run) × AreRuns l.block l.opened (reverse (take l.turn-index l.turns)) own × (l.runs.items ≡ l.initial.runs.items ++ own))
