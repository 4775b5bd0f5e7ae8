use Rattle.std.proofs.Common.{◌≡◌, List, map, take}
use Rattle.i3c_tracks.specs.declared.question.Question.{Question}
use Rattle.i3c_tracks.specs.Groups.{holds_in}
use Rattle.i3c_tracks.specs.Planning.{step_of}
use Rattle.i3c_tracks.specs.Questions.{asking}
use Rattle.i3c_tracks.proofs.groups.key_of.Given as goal

abbrev pub invariant-loop-index : goal.invariant-loop-index
invariant-loop-index l = (questions : List Question) → map step_of l.asked ≡ map asking questions → l.key.items ≡ map (holds_in l.state) (take l.index questions)
