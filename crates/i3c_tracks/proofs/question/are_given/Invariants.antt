use Rattle.std.proofs.Common.{take}
use Rattle.i3c_tracks.specs.Questions.{AreGiven}
use Rattle.i3c_tracks.proofs.question.are_given.Given as goal

abbrev pub invariant-loop-index : goal.invariant-loop-index
invariant-loop-index l = AreGiven l.lines (take l.index l.claims)
