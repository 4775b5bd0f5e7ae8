use Rattle.std.proofs.Common.{◌≡◌, map, take}
use Rattle.i3c_tracks.specs.Planning.{step_of}
use Rattle.i3c_tracks.specs.Questions.{asking}
use Rattle.i3c_tracks.proofs.groups.asked_of.Given as goal

abbrev pub invariant-loop-index : goal.invariant-loop-index
invariant-loop-index l = map step_of l.asked.items ≡ map asking (take l.index l.questions)
