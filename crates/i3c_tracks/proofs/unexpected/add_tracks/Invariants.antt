use Rattle.std.proofs.Common.{◌≡◌, ◌++◌, drop}
use Rattle.i3c_tracks.specs.Unexpected.{marked_tracks}
use Rattle.i3c_tracks.proofs.unexpected.add_tracks.Given as goal

abbrev pub invariant-loop-index : goal.invariant-loop-index
invariant-loop-index l = l.numbers.items ++ marked_tracks (drop l.index l.tracks) (drop l.index l.marks) ≡ l.initial.numbers.items ++ marked_tracks l.tracks l.marks
