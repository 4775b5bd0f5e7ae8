use Rattle.std.proofs.Common.{take}
use Rattle.i3c_tracks.specs.Questions.{AreKnown}
use Rattle.i3c_tracks.proofs.exploring.first_unknown.Given as goal

abbrev pub invariant-loop-index : goal.invariant-loop-index
invariant-loop-index l = AreKnown l.lines (take l.index l.questions)
