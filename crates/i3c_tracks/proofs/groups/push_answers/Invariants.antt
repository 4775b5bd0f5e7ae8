use Rattle.std.proofs.Common.{◌≡◌, ◌++◌, drop}
use Rattle.i3c_tracks.specs.Groups.{answers_text}
use Rattle.i3c_tracks.proofs.groups.push_answers.Given as goal

abbrev pub invariant-loop-index : goal.invariant-loop-index
invariant-loop-index l = l.text ++ answers_text (drop l.index l.questions) (drop l.index l.key) ≡ l.initial.text ++ answers_text l.questions l.key
