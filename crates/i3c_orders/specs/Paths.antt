-- A run as a path of choices, and the next one.
use Rattle.std.specs.Prelude.{◌≡◌, ◌≢◌, ◌⊎◌, ◌<◌, ◌≤◌, ℕ, suc, true, false, List, [], ◌∷◌, ◌++◌, length, map, slice_get, take, Option, None, Some, MatchOption, Result, Ok, Err, Bool}
use Rattle.i3c_orders.specs.declared.choice.Choice.{Choice}
use Rattle.i3c_orders.specs.declared.choice.Step.{Step}
use Rattle.i3c_orders.specs.declared.orders.SendFault.{SendFault}
use Rattle.i3c_orders.specs.declared.orders.Unfinished.{Unfinished}

-- the runs of a program: where each begins, the path of choices, and how many of these the program has come by in this run
pub record Tree (L S A : Type 0) : Type 0 where
  pub start : S
  pub path : List (Choice L S A)
  pub at : ℕ

abbrev pub tree : {L S A : Type 0} → S → List (Choice L S A) → ℕ → Tree L S A
tree start path at = record { start = start; path = path; at = at }

-- the run of a path
abbrev pub steps_of : {L S A : Type 0} → List (Choice L S A) → List (Step S A)
steps_of path = map (λ choice. choice.taken) path

-- the answers on a path
abbrev pub told_on : {L S A : Type 0} → List (Choice L S A) → List A
told_on path = map (λ choice. choice.taken.answer) path

-- the newest step of a path
abbrev pub last_step : {L S A : Type 0} → List (Choice L S A) → Option (Step S A)
last_step [] = None
last_step (choice ∷ []) = Some choice.taken
last_step (choice ∷ next ∷ path) = last_step (next ∷ path)

-- the line of a choice, if there is one
abbrev pub due_of : {L S A : Type 0} → Option (Choice L S A) → Option L
due_of None = None
due_of (Some choice) = Some choice.line

-- the state behind a path
abbrev pub state_behind : {L S A : Type 0} → S → List (Choice L S A) → S
state_behind start [] = start
state_behind start (choice ∷ path) = state_behind choice.taken.state path

-- a line is answered at the end of a path: of all answers that it is given one is taken, and the others are left
abbrev pub Sends : {L S A : Type 0} → (S → L → List (Step S A) → Type 0) → S → List (Choice L S A) → L → List (Choice L S A) → Type 0
Sends {L} {S} {A} gives start old line new =
    (choice : Choice L S A) × (choice.line ≡ line) × gives (state_behind start old) line (choice.left.items ++ choice.taken ∷ []) × (new ≡ old ++ choice ∷ [])

-- no choice of a path has anything left
abbrev pub IsOver : {L S A : Type 0} → List (Choice L S A) → Type 0
IsOver [] = Unit {0}
IsOver (choice ∷ path) = (choice.left.items ≡ []) × IsOver path

-- the next run goes along a path up to its last choice with something left, and takes one of what is left there
abbrev pub Retreats : {L S A : Type 0} → List (Choice L S A) → List (Choice L S A) → Type 0
Retreats [] new = ⊥
Retreats (choice ∷ path) [] = ⊥
Retreats {L} {S} {A} (choice ∷ path) (other ∷ new) =
    ((other ≡ choice) × Retreats path new) ⊎ (IsOver path × (new ≡ []) × (other.line ≡ choice.line) × (choice.left.items ≡ other.left.items ++ other.taken ∷ []))

-- two paths begin alike: up to a line that gets another answer, which is the last one of the second
pub record BeginAlike {L S A : Type 0} (one other : List (Choice L S A)) : Type 0 where
  pub same : List (Choice L S A)
  pub first : Choice L S A
  pub behind : List (Choice L S A)
  pub next : Choice L S A
  pub old : one ≡ same ++ first ∷ behind
  pub new : other ≡ same ++ next ∷ []
  pub line : next.line ≡ first.line

-- a line of a run that came to the end of its path is answered there
pub record IsSent {S L A : Type 0} (gives : S → L → List (Step S A) → Type 0) (old : Tree L S A) (line : L) (new : Tree L S A) : Type 0 where
  pub start : new.start ≡ old.start
  pub path : Sends gives old.start old.path line new.path
  pub at : new.at ≡ length new.path

-- a line is answered: at the end of the path as the machine does; before it has to be the line of the run before, and is answered as there
abbrev pub IsAnswered : {S L A : Type 0} → (S → L → List (Step S A) → Type 0) → Tree L S A → L → Tree L S A → Type 0
IsAnswered gives old line new =
    MatchOption (slice_get old.path old.at) (IsSent gives old line new) (λ choice. (choice.line ≡ line) × (new ≡ tree old.start old.path (suc old.at)))

-- why a line isn't answered at the end of a path: there was no memory, or the machine has no answers
abbrev pub IsUnsent : {S L F : Type 0} → (S → L → F → Type 0) → S → L → SendFault F → Type 0
IsUnsent fails state line SendFault.Differs = ⊥
IsUnsent fails state line SendFault.Memory = Unit {0}
IsUnsent fails state line (SendFault.Failed fault) = fails state line fault

-- what a line comes to
abbrev pub Answers : {S L A F : Type 0} → (S → L → List (Step S A) → Type 0) → (S → L → F → Type 0) → Tree L S A → L → Result (Unit {0}) (SendFault F) → Tree L S A → Type 0
Answers gives fails old line (Ok done) new = IsAnswered gives old line new
Answers {S} {L} {A} gives fails old line (Err SendFault.Differs) new =
    (choice : Choice L S A) × (slice_get old.path old.at ≡ Some choice) × (choice.line ≢ line) × (new ≡ old)
Answers gives fails old line (Err SendFault.Memory) new = (old.at ≡ length old.path) × (new ≡ old)
Answers gives fails old line (Err (SendFault.Failed fault)) new = (old.at ≡ length old.path) × fails (state_behind old.start old.path) line fault × (new ≡ old)

-- what the end of a run comes to, which has to be at the end of the path: the next run begins, or no run is left
abbrev pub Ends : {S L A : Type 0} → Tree L S A → Result Bool Unfinished → Tree L S A → Type 0
Ends old (Ok true) new = (old.at ≡ length old.path) × Retreats old.path new.path × (new.at ≡ 0) × (new.start ≡ old.start)
Ends old (Ok false) new = (old.at ≡ length old.path) × IsOver old.path × (new ≡ tree old.start [] 0)
Ends old (Err unfinished) new = (old.at < length old.path) × (new ≡ old)

-- the same line with another answer of those that are left, if any is
abbrev pub IsOther : {L S A : Type 0} → Choice L S A → Option (Choice L S A) → Type 0
IsOther choice None = choice.left.items ≡ []
IsOther choice (Some other) = (other.line ≡ choice.line) × (choice.left.items ≡ other.left.items ++ other.taken ∷ [])

-- the answer of this number is taken of those that are left for a line, and those behind it are passed over; or there is none of this number
abbrev pub IsChosen : {L S A : Type 0} → Choice L S A → ℕ → Bool → Choice L S A → Type 0
IsChosen old number true new = (number ≤ length old.left.items) × (new.line ≡ old.line) × (new.left.items ++ new.taken ∷ [] ≡ take (suc number) (old.left.items ++ old.taken ∷ []))
IsChosen old number false new = (length old.left.items < number) × (new ≡ old)

-- a run that is ahead of those before it chooses among the answers that are left for its newest line
abbrev pub Chooses : {L S A : Type 0} → Tree L S A → ℕ → Bool → Tree L S A → Type 0
Chooses {L} {S} {A} old number found new =
    ((before : List (Choice L S A)) × (choice : Choice L S A) × (other : Choice L S A) × (old.at ≡ length old.path) × (old.path ≡ before ++ choice ∷ []) × IsChosen choice number found other
    × (new ≡ tree old.start (before ++ other ∷ []) old.at))
    ⊎ (((old.at < length old.path) ⊎ (old.path ≡ [])) × (found ≡ false) × (new ≡ old))

-- the next path, if there is one
abbrev pub Turns : {L S A : Type 0} → List (Choice L S A) → Bool → List (Choice L S A) → Type 0
Turns old true new = Retreats old new
Turns old false new = IsOver old × (new ≡ [])
