-- A line that is no mark expects nothing.
use Rattle.std.proofs.Common.{◌∙◌, ◌++◌, ℕ, List, ap}
use Rattle.i3c_tracks.proofs.QuestionLaws.{not_behind}
use Rattle.i3c_tracks.proofs.question.facts_behind.Goals as goal

pub returns-in_default : goal.returns-in_default
returns-in_default c =
    let none = rw c.in_default.is at c.in_ok-mark.ensures in
    not_behind c.args.text.now c.deref.result.now (c.deref.ensures.value ∙ c.in_ok-extend_from_slice.ensures.items ∙ ap (λ (bytes : List ℕ). bytes ++ c.args.text.now) c.in_ok-line.ensures) none
