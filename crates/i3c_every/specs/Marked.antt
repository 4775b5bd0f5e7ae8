-- Every run of a program that leaves a run where it sent its next line before.
use Rattle.std.specs.Prelude.{◌≡◌, ◌⊎◌, ◌++◌, ℕ, List, [], ◌∷◌, Option, None, Some}
use Rattle.std.specs.Global.{Vec}
use Rattle.i3c_explore.specs.declared.turn.Turn.{Turn}
use Rattle.i3c_orders.specs.declared.choice.Step.{Step}
use Rattle.i3c_orders.specs.Marks.{Begins, GoesOnAlike}
use Rattle.i3c_orders.specs.Runs.{state_after, told_by}
use Rattle.i3c_every.specs.declared.met.Met.{Met}
use Rattle.i3c_every.specs.declared.sent.Sent.{Sent}
use Rattle.i3c_every.specs.declared.told.Told.{Told}
use Rattle.i3c_every.specs.Every.{IsToldSo, MayRun}
use Rattle.i3c_every.specs.Meeting.{HasSameState}

-- the program's line behind a run met each order of the tracks' lines in each way: what it was told there goes on a run that was tried
pub record MeetsAll {S L P A : Type 0} (steps : S → L → ℕ → S → Type 0) (answers : S → P → ℕ → A → S → Type 0) (sees : S → A → Type 0) (tracks : List (Vec L)) (program : List (Told A) → Option (Sent P)) (start : Met S) (tried : List (List (Step (Met S) (Told A)))) (run : List (Step (Met S) (Told A))) : Type 0 where
  pub sent : Sent P
  pub asks : program (told_by run) ≡ Some sent
  pub each : (order : List Turn) → MayRun tracks (state_after start run).places.items sent order → (way : ℕ)
      → (step : Step (Met S) (Told A)) × IsToldSo steps answers sees tracks (state_after start run) sent order way step × Begins tried (run ++ step ∷ [])

-- another run came to the same state at the same places, its line met each order in each way, and the program goes on alike
pub record MeetsAllElsewhere {S L P A : Type 0} (steps : S → L → ℕ → S → Type 0) (answers : S → P → ℕ → A → S → Type 0) (sees : S → A → Type 0) (tracks : List (Vec L)) (program : List (Told A) → Option (Sent P)) (start : Met S) (tried : List (List (Step (Met S) (Told A)))) (run : List (Step (Met S) (Told A))) : Type 0 where
  pub other : List (Step (Met S) (Told A))
  pub same : HasSameState (state_after start other) (state_after start run)
  pub futures : GoesOnAlike program other run
  pub met : MeetsAll steps answers sees tracks program start tried other

-- behind the beginning of each run that was tried, the program's run is over, or its line met each order in each way, there or elsewhere
abbrev pub AllMeet : {S L P A : Type 0} → (S → L → ℕ → S → Type 0) → (S → P → ℕ → A → S → Type 0) → (S → A → Type 0) → List (Vec L) → (List (Told A) → Option (Sent P)) → Met S → List (List (Step (Met S) (Told A))) → Type 0
AllMeet {S} {L} {P} {A} steps answers sees tracks program start tried =
    (run : List (Step (Met S) (Told A))) → Begins tried run → (program (told_by run) ≡ None) ⊎ (MeetsAll steps answers sees tracks program start tried run ⊎ MeetsAllElsewhere steps answers sees tracks program start tried run)
