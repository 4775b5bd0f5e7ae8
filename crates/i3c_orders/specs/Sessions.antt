-- What was tried of a program's runs.
use Rattle.std.specs.Prelude.{◌≡◌, true, List, [], ◌∷◌, Option, None, Some, Ok, take}
use Rattle.i3c_orders.specs.declared.choice.Choice.{Choice}
use Rattle.i3c_orders.specs.declared.choice.Step.{Step}
use Rattle.i3c_orders.specs.Paths.{Ends, IsAnswered, Retreats, Sends, Tree, steps_of, told_on, tree}

-- what a program does that isn't yet on its path: it sends a line, or its run is over and the next one begins
pub data Move : Type 0 where
  Line : Move
  Next : Move

-- after these moves of a program, the newest first, these runs were tried, and the newest one has come to this path
abbrev pub IsTried : {L S A : Type 0} → (S → L → List (Step S A) → Type 0) → (List A → Option L) → S → List Move → List (List (Step S A)) → List (Choice L S A) → Type 0
IsTried gives program start [] tried path = (tried ≡ []) × (path ≡ [])
IsTried {L} {S} {A} gives program start (Move.Line ∷ before) tried path =
    (old : List (Choice L S A)) × (line : L) × IsTried gives program start before tried old × (program (told_on old) ≡ Some line) × Sends gives start old line path
IsTried {L} {S} {A} gives program start (Move.Next ∷ before) tried path =
    (old : List (Choice L S A)) × (done : List (List (Step S A))) × IsTried gives program start before done old × (program (told_on old) ≡ None) × Retreats old path × (tried ≡ steps_of old ∷ done)

-- a call of a program that doesn't fail: it sends a line, or its run is over and the next one begins. A call that fails changes nothing
pub data Call : Type 0 where
  Send : Call
  Again : Call

-- the answers that a program got so far in this run
abbrev pub told_now : {L S A : Type 0} → Tree L S A → List A
told_now orders = told_on (take orders.at orders.path)

-- after these calls of a program, the newest first, these runs were tried, and this is what is kept of them. In each run the program
-- sends its lines from its first one on, those that were sent before among them
abbrev pub IsSession : {L S A : Type 0} → (S → L → List (Step S A) → Type 0) → (List A → Option L) → S → List Call → List (List (Step S A)) → Tree L S A → Type 0
IsSession gives program start [] tried new = (tried ≡ []) × (new ≡ tree start [] 0)
IsSession {L} {S} {A} gives program start (Call.Send ∷ before) tried new =
    (old : Tree L S A) × (line : L) × IsSession gives program start before tried old × (program (told_now old) ≡ Some line) × IsAnswered gives old line new
IsSession {L} {S} {A} gives program start (Call.Again ∷ before) tried new =
    (old : Tree L S A) × (done : List (List (Step S A))) × IsSession gives program start before done old × (program (told_now old) ≡ None) × Ends old (Ok true) new × (tried ≡ steps_of old.path ∷ done)
