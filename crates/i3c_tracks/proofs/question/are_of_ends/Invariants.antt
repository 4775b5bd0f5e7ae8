use Rattle.std.proofs.Common.{take}
use Rattle.i3c_tracks.specs.Questions.{AreOfEnds}
use Rattle.i3c_tracks.proofs.question.are_of_ends.Given as goal

abbrev pub invariant-loop-index : goal.invariant-loop-index
invariant-loop-index l = AreOfEnds (take l.index l.claims)
