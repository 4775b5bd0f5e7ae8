-- Every run that a program may have while lines of the tracks run.
use Rattle.std.specs.Prelude.{◌≡◌, ◌++◌, ℕ, List, [], ◌∷◌, Contains, Option, None, Some, reverse}
use Rattle.std.specs.Global.{Vec}
use Rattle.i3c_explore.specs.declared.turn.Turn.{Turn}
use Rattle.i3c_explore.specs.Reached.{AreTaken}
use Rattle.i3c_orders.specs.declared.choice.Step.{Step}
use Rattle.i3c_orders.specs.Runs.{state_after, told_by}
use Rattle.i3c_every.specs.declared.met.Met.{Met}
use Rattle.i3c_every.specs.declared.sent.Sent.{Sent}
use Rattle.i3c_every.specs.declared.told.Told.{Told}
use Rattle.i3c_every.specs.Meeting.{AreAwaited, HasStayed, IsSeenBehind, IsToldBehind}

-- the tracks' lines that may run before what a program sends, the newest turn first: any before a line that meets them, none before another one or a mark, and while it waits a line at least, if one is left
abbrev pub MayRun : {L P : Type 0} → List (Vec L) → List ℕ → Sent P → List Turn → Type 0
MayRun tracks places (Sent.Meets line) order = AreTaken tracks places order
MayRun tracks places (Sent.Alone line) order = order ≡ []
MayRun tracks places Sent.Waits order = AreAwaited tracks places order
MayRun tracks places (Sent.Marks mark) order = order ≡ []

-- behind them, and where its line goes a way, a program is told so
abbrev pub IsToldSo : {S L P A : Type 0} → (S → L → ℕ → S → Type 0) → (S → P → ℕ → A → S → Type 0) → (S → A → Type 0) → List (Vec L) → Met S → Sent P → List Turn → ℕ → Step (Met S) (Told A) → Type 0
IsToldSo steps answers sees tracks old (Sent.Meets line) order way step = IsToldBehind steps answers tracks old order line way step
IsToldSo steps answers sees tracks old (Sent.Alone line) order way step = IsToldBehind steps answers tracks old order line way step
IsToldSo steps answers sees tracks old Sent.Waits order way step = IsSeenBehind steps sees tracks old order step
IsToldSo steps answers sees tracks old (Sent.Marks mark) order way step = HasStayed sees old step

mutual
  -- all that goes on from this run was tried: the program's run is over here, and was tried; or it sends a line, which meets each order of the tracks' lines in each way
  pub data MeetsEvery {S L P A : Type 0} (steps : S → L → ℕ → S → Type 0) (answers : S → P → ℕ → A → S → Type 0) (sees : S → A → Type 0) (tracks : List (Vec L)) (program : List (Told A) → Option (Sent P)) (start : Met S) (tried : List (List (Step (Met S) (Told A)))) : List (Step (Met S) (Told A)) → Type 0 where
    Over : (run : List (Step (Met S) (Told A))) → program (told_by run) ≡ None → Contains tried run → MeetsEvery steps answers sees tracks program start tried run
    GoesOn : (run : List (Step (Met S) (Told A))) (sent : Sent P) → program (told_by run) ≡ Some sent
        → ((order : List Turn) → MayRun tracks (state_after start run).places.items sent order → (way : ℕ) → IsMet steps answers sees tracks program start tried run sent order way) → MeetsEvery steps answers sees tracks program start tried run

  -- behind these lines of the tracks, and where its line goes this way, the program was told something, and all that goes on with that was tried
  pub data IsMet {S L P A : Type 0} (steps : S → L → ℕ → S → Type 0) (answers : S → P → ℕ → A → S → Type 0) (sees : S → A → Type 0) (tracks : List (Vec L)) (program : List (Told A) → Option (Sent P)) (start : Met S) (tried : List (List (Step (Met S) (Told A)))) : List (Step (Met S) (Told A)) → Sent P → List Turn → ℕ → Type 0 where
    By : (run : List (Step (Met S) (Told A))) (sent : Sent P) (order : List Turn) (way : ℕ) (step : Step (Met S) (Told A)) → IsToldSo steps answers sees tracks (state_after start run) sent order way step
        → MeetsEvery steps answers sees tracks program start tried (run ++ step ∷ []) → IsMet steps answers sees tracks program start tried run sent order way

-- a program may be told so, and come to this state: some of the tracks' lines ran before, and its line went some way
abbrev pub MayMeet : {S L P A : Type 0} → (S → L → ℕ → S → Type 0) → (S → P → ℕ → A → S → Type 0) → (S → A → Type 0) → List (Vec L) → Met S → Sent P → Told A → Met S → Type 0
MayMeet steps answers sees tracks old sent told new =
    (order : List Turn) × MayRun tracks old.places.items sent order × ((way : ℕ) × IsToldSo steps answers sees tracks old sent order way (record { answer = told; state = new }))

-- a program was told so, and came to this state, by the turns and the way that the state keeps
abbrev pub HasMet : {S L P A : Type 0} → (S → L → ℕ → S → Type 0) → (S → P → ℕ → A → S → Type 0) → (S → A → Type 0) → List (Vec L) → Met S → Sent P → Told A → Met S → Type 0
HasMet steps answers sees tracks old sent told new =
    (order : List Turn) × MayRun tracks old.places.items sent order × IsToldSo steps answers sees tracks old sent order new.way (record { answer = told; state = new }) × (new.turns.items ≡ reverse order)

-- a machine is determined: each line leads to one state in a way, with one answer, and a program that waits sees one thing in a state
pub record IsDetermined {S L P A : Type 0} (steps : S → L → ℕ → S → Type 0) (answers : S → P → ℕ → A → S → Type 0) (sees : S → A → Type 0) : Type 0 where
  pub ends : (old : S) (line : L) (way : ℕ) (one other : S) → steps old line way one → steps old line way other → one ≡ other
  pub answer : (old : S) (line : P) (way : ℕ) (one other : A) (new next : S) → answers old line way one new → answers old line way other next → (one ≡ other) × (new ≡ next)
  pub sight : (state : S) (one other : A) → sees state one → sees state other → one ≡ other

-- two runs came to the same: the same answers, the same state, and the same places in the tracks
abbrev pub AreAlike : {S A : Type 0} → Met S → List (Step (Met S) (Told A)) → List (Step (Met S) (Told A)) → Type 0
AreAlike start one other = (told_by one ≡ told_by other) × ((state_after start one).state ≡ (state_after start other).state) × ((state_after start one).places.items ≡ (state_after start other).places.items)
