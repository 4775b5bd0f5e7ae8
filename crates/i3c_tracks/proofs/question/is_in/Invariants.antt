use Rattle.std.proofs.Common.{ℕ, take}
use Rattle.std.specs.Global.{Vec}
use Rattle.std.specs.Prelude.{All}
use Rattle.i3c_tracks.specs.Questions.{Gives}
use Rattle.i3c_tracks.proofs.question.is_in.Given as goal

abbrev pub invariant-loop-index : goal.invariant-loop-index
invariant-loop-index l = All (λ (line : Vec ℕ). Gives line.items l.name → ⊥) (take l.index l.lines)
