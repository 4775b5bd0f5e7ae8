-- Runs of a program that says by a line what it does next: where it sent the line before, in a state alike, it needn't go on.
use Rattle.std.specs.Prelude.{◌≡◌, ◌⊎◌, ◌++◌, ◌∷◌, All, List, [], Contains, Option, None, Some}
use Rattle.i3c_orders.specs.declared.choice.Choice.{Choice}
use Rattle.i3c_orders.specs.declared.choice.Step.{Step}
use Rattle.i3c_orders.specs.Paths.{Retreats, Sends, steps_of, told_on}
use Rattle.i3c_orders.specs.Runs.{state_after, told_by}

-- what a program does that isn't yet on its path: it sends a line; or its run is over, or left, and the next one begins
pub data Turn : Type 0 where
  Line : Turn
  Over : Turn
  Left : Turn

-- a run is the beginning of one that was tried
abbrev pub Begins : {S A : Type 0} → List (List (Step S A)) → List (Step S A) → Type 0
Begins {S} {A} tried run = (rest : List (Step S A)) × Contains tried (run ++ rest)

-- whatever a program is told from then on, it goes on behind one run as behind the other
abbrev pub GoesOnAlike : {L S A : Type 0} → (List A → Option L) → List (Step S A) → List (Step S A) → Type 0
GoesOnAlike {L} {S} {A} program one other = (more : List A) → program (told_by one ++ more) ≡ program (told_by other ++ more)

-- the program's next line behind a run was sent before, behind another one, in a state alike, and was answered there; and the program goes on alike
pub record IsKnown {L S A : Type 0} (alike : S → S → Type 0) (program : List A → Option L) (start : S) (tried : List (List (Step S A))) (run : List (Step S A)) : Type 0 where
  pub line : L
  pub asks : program (told_by run) ≡ Some line
  pub other : List (Step S A)
  pub asked : program (told_by other) ≡ Some line
  pub futures : GoesOnAlike program other run
  pub same : alike (state_after start other) (state_after start run)
  pub step : Step S A
  pub answered : Begins tried (other ++ step ∷ [])

-- after these turns of a program, the newest first, these runs were tried, and the newest one has come to this path
abbrev pub AreMarked : {L S A : Type 0} → (S → L → List (Step S A) → Type 0) → (S → S → Type 0) → (List A → Option L) → S → List Turn → List (List (Step S A)) → List (Choice L S A) → Type 0
AreMarked gives alike program start [] tried path = (tried ≡ []) × (path ≡ [])
AreMarked {L} {S} {A} gives alike program start (Turn.Line ∷ before) tried path =
    (old : List (Choice L S A)) × (line : L) × AreMarked gives alike program start before tried old × (program (told_on old) ≡ Some line) × Sends gives start old line path
AreMarked {L} {S} {A} gives alike program start (Turn.Over ∷ before) tried path =
    (old : List (Choice L S A)) × (done : List (List (Step S A))) × AreMarked gives alike program start before done old × (program (told_on old) ≡ None) × Retreats old path × (tried ≡ steps_of old ∷ done)
AreMarked {L} {S} {A} gives alike program start (Turn.Left ∷ before) tried path =
    (old : List (Choice L S A)) × (done : List (List (Step S A))) × AreMarked gives alike program start before done old × IsKnown alike program start (steps_of old ∷ done) (steps_of old) × Retreats old path × (tried ≡ steps_of old ∷ done)

-- each answer that the program's line is given behind a run begins one that was tried
pub record GoesOn {L S A : Type 0} (gives : S → L → List (Step S A) → Type 0) (program : List A → Option L) (start : S) (tried : List (List (Step S A))) (run : List (Step S A)) : Type 0 where
  pub line : L
  pub asks : program (told_by run) ≡ Some line
  pub steps : List (Step S A)
  pub given : gives (state_after start run) line steps
  pub each : (step : Step S A) → Contains steps step → Begins tried (run ++ step ∷ [])

-- the program's line behind a run was sent in a state alike, behind a run that goes on in each way; and the program goes on alike
pub record GoesOnElsewhere {L S A : Type 0} (gives : S → L → List (Step S A) → Type 0) (alike : S → S → Type 0) (program : List A → Option L) (start : S) (tried : List (List (Step S A))) (run : List (Step S A)) : Type 0 where
  pub line : L
  pub asks : program (told_by run) ≡ Some line
  pub other : List (Step S A)
  pub asked : program (told_by other) ≡ Some line
  pub futures : GoesOnAlike program other run
  pub same : alike (state_after start other) (state_after start run)
  pub on : GoesOn gives program start tried other

-- behind the beginning of each run that was tried, the program's run is over, or goes on in each way, or did so elsewhere
abbrev pub AreCovered : {L S A : Type 0} → (S → L → List (Step S A) → Type 0) → (S → S → Type 0) → (List A → Option L) → S → List (List (Step S A)) → Type 0
AreCovered {L} {S} {A} gives alike program start tried =
    (run : List (Step S A)) → Begins tried run → (program (told_by run) ≡ None) ⊎ (GoesOn gives program start tried run ⊎ GoesOnElsewhere gives alike program start tried run)

-- a relation is reflexive and transitive
pub record IsPreorder {S : Type 0} (alike : S → S → Type 0) : Type 0 where
  pub reflexive : (one : S) → alike one one
  pub transitive : (one two three : S) → alike one two → alike two three → alike one three

-- what a line may be answered in a state is one of its answers in each state alike, and leads to a state alike
abbrev pub AreFollowed : {L S A : Type 0} → (S → L → List (Step S A) → Type 0) → (S → S → Type 0) → (S → L → A → S → Type 0) → Type 0
AreFollowed {L} {S} {A} gives alike leads =
    (one other : S) (line : L) (answer : A) (new : S) (steps : List (Step S A)) → alike other one → leads one line answer new → gives other line steps → (step : Step S A) × Contains steps step × (step.answer ≡ answer) × alike step.state new

-- a run is matched by those that were tried: one of them is over, and ends in a state alike; and each answer of the run was told in one of them
pub record IsMatched {L S A : Type 0} (alike : S → S → Type 0) (program : List A → Option L) (start : S) (tried : List (List (Step S A))) (run : List (Step S A)) : Type 0 where
  pub other : List (Step S A)
  pub among : Contains tried other
  pub over : program (told_by other) ≡ None
  pub same : alike (state_after start other) (state_after start run)
  pub told : All (λ step. (one : List (Step S A)) × Contains tried one × Contains (told_by one) step.answer) run
