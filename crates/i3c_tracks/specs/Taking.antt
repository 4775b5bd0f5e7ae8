-- The result of a line of a file, as the plan is read.
use Rattle.std.specs.Prelude.{◌≡◌, ℕ, List, Some, None, Result, MatchResult}
use Rattle.i3c_tracks.specs.declared.draft.Draft.{Draft}
use Rattle.i3c_tracks.specs.declared.plan.PlanFault.{PlanFault}
use Rattle.i3c_tracks.specs.declared.file_line.FileLine.{FileLine}
use Rattle.i3c_tracks.specs.Drafting.{Reads, refuses}
use Rattle.i3c_tracks.specs.Saying.{IsFileLine}

-- the line isn't refused, and is read
abbrev pub IsTaken : Draft → ℕ → List ℕ → Draft → Type 0
IsTaken draft number line new = (said : FileLine) × IsFileLine line said × (refuses draft said ≡ None) × Reads draft (number, said) new

-- there was no memory, or the line is refused, by its number, for this reason
abbrev pub IsTakenNot : Draft → ℕ → List ℕ → PlanFault → Type 0
IsTakenNot draft number line PlanFault.Memory = Unit {0}
IsTakenNot draft number line (PlanFault.Refused refusal) = (said : FileLine) × IsFileLine line said × (refuses draft said ≡ Some refusal.reason) × (refusal.line ≡ Some number)

-- the result of a line
abbrev pub Takes : Draft → ℕ → List ℕ → Draft → Result (Unit {0}) PlanFault → Type 0
Takes draft number line new result = MatchResult result (λ _. IsTaken draft number line new) (IsTakenNot draft number line)
