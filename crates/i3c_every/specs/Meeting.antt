-- What a program is told while lines of the tracks run.
use Rattle.std.specs.Prelude.{◌≡◌, ◌⊎◌, ℕ, List, [], ◌∷◌, Contains, Err, reverse}
use Rattle.std.specs.Global.{Vec}
use Rattle.i3c_explore.specs.declared.limits.Limits.{Limits}
use Rattle.i3c_explore.specs.declared.node.Node.{Node}
use Rattle.i3c_explore.specs.declared.stop.Stop.{Stop}
use Rattle.i3c_explore.specs.declared.turn.Turn.{Turn}
use Rattle.i3c_explore.specs.Reached.{AreTaken, LeadsFrom, Reaches, places_after}
use Rattle.i3c_orders.specs.declared.choice.Step.{Step}
use Rattle.i3c_every.specs.declared.met.Met.{Met}
use Rattle.i3c_every.specs.declared.sent.Sent.{Sent}
use Rattle.i3c_every.specs.declared.told.Told.{Told}

-- behind this order of the tracks' lines a program's line goes a way: what it is answered, and where that leads
pub record IsToldBehind {S L P A : Type 0} (steps : S → L → ℕ → S → Type 0) (answers : S → P → ℕ → A → S → Type 0) (tracks : List (Vec L)) (old : Met S) (order : List Turn) (line : P) (way : ℕ) (step : Step (Met S) (Told A)) : Type 0 where
  pub mid : S
  pub answer : A
  pub led : LeadsFrom steps tracks old.places.items old.state order mid
  pub answered : answers mid line way answer step.state.state
  pub told : step.answer ≡ Told.Answered answer
  pub places : step.state.places.items ≡ places_after old.places.items order

-- a step keeps the turns of an order, the oldest first
abbrev pub HasTurns : {S A : Type 0} → List Turn → Step (Met S) (Told A) → Type 0
HasTurns order step = step.state.turns.items ≡ reverse order

-- what a program that waited is told: that nothing is left, or behind some lines of the tracks that something happened
abbrev pub waited : {A : Type 0} → List Turn → A → Told A
waited [] answer = Told.NothingLeft answer
waited (turn ∷ before) answer = Told.Happened answer

-- behind this order a program that waited sees the state
pub record IsSeenBehind {S L A : Type 0} (steps : S → L → ℕ → S → Type 0) (sees : S → A → Type 0) (tracks : List (Vec L)) (old : Met S) (order : List Turn) (step : Step (Met S) (Told A)) : Type 0 where
  pub answer : A
  pub led : LeadsFrom steps tracks old.places.items old.state order step.state.state
  pub seen : sees step.state.state answer
  pub told : step.answer ≡ waited order answer
  pub places : step.state.places.items ≡ places_after old.places.items order

-- all that a line may be told behind the orders of which this holds: each order and each way is told by a step, and each step is of the order and the way that it keeps
pub record AreTold {S L P A : Type 0} (steps : S → L → ℕ → S → Type 0) (answers : S → P → ℕ → A → S → Type 0) (tracks : List (Vec L)) (old : Met S) (Is : List Turn → Type 0) (line : P) (all : List (Step (Met S) (Told A))) : Type 0 where
  pub from : (step : Step (Met S) (Told A)) → Contains all step → (order : List Turn) × Is order × IsToldBehind steps answers tracks old order line step.state.way step × HasTurns order step
  pub each : (order : List Turn) → Is order → (way : ℕ) → (step : Step (Met S) (Told A)) × Contains all step × IsToldBehind steps answers tracks old order line way step

-- the one thing that a program which waits is told where nothing is left
abbrev pub IsNothingLeft : {S A : Type 0} → (S → A → Type 0) → Met S → List (Step (Met S) (Told A)) → Type 0
IsNothingLeft {S} {A} sees old all =
    (step : Step (Met S) (Told A)) × (answer : A) × (all ≡ step ∷ []) × (step.answer ≡ Told.NothingLeft answer) × sees old.state answer × (step.state.state ≡ old.state) × (step.state.places.items ≡ old.places.items) × (step.state.turns.items ≡ [])

-- two runs are in the same state, at the same places
abbrev pub HasSameState : {S : Type 0} → Met S → Met S → Type 0
HasSameState one other = (one.state ≡ other.state) × (one.places.items ≡ other.places.items)

-- a step tells that a mark is taken, in the same state at the same places
abbrev pub HasStayed : {S A : Type 0} → (S → A → Type 0) → Met S → Step (Met S) (Told A) → Type 0
HasStayed {S} {A} sees old step = (answer : A) × (step.answer ≡ Told.Marked answer) × sees step.state.state answer × HasSameState step.state old

-- the one thing that a mark is told: the run stays where it is, and no line of the tracks runs
abbrev pub IsMarkTold : {S A : Type 0} → (S → A → Type 0) → Met S → List (Step (Met S) (Told A)) → Type 0
IsMarkTold {S} {A} sees old all = (step : Step (Met S) (Told A)) × (all ≡ step ∷ []) × HasStayed sees old step × (step.state.turns.items ≡ [])

-- no line of the tracks is left
abbrev pub IsNoneLeft : {L : Type 0} → List (Vec L) → List ℕ → Type 0
IsNoneLeft tracks places = (order : List Turn) → AreTaken tracks places order → order ≡ []

-- what may run while a program waits: a line of the tracks at least, if one is left
abbrev pub AreAwaited : {L : Type 0} → List (Vec L) → List ℕ → List Turn → Type 0
AreAwaited tracks places order = AreTaken tracks places order × (order ≡ [] → IsNoneLeft tracks places)

-- all that a program which waits may be told: each order is seen by a step, and each step is of the order that it keeps
pub record AreSeenBehind {S L A : Type 0} (steps : S → L → ℕ → S → Type 0) (sees : S → A → Type 0) (tracks : List (Vec L)) (old : Met S) (all : List (Step (Met S) (Told A))) : Type 0 where
  pub from : (step : Step (Met S) (Told A)) → Contains all step → (order : List Turn) × AreAwaited tracks old.places.items order × IsSeenBehind steps sees tracks old order step × HasTurns order step
  pub each : (order : List Turn) → AreAwaited tracks old.places.items order → (step : Step (Met S) (Told A)) × Contains all step × IsSeenBehind steps sees tracks old order step

-- what a program may be told of what it sends: before a line that meets them any of the tracks' lines run, before another one none
abbrev pub AreMet : {S L P A : Type 0} → (S → L → ℕ → S → Type 0) → (S → P → ℕ → A → S → Type 0) → (S → A → Type 0) → List (Vec L) → Met S → Sent P → List (Step (Met S) (Told A)) → Type 0
AreMet steps answers sees tracks old (Sent.Meets line) all = AreTold steps answers tracks old (AreTaken tracks old.places.items) line all
AreMet steps answers sees tracks old (Sent.Alone line) all = AreTold steps answers tracks old (λ order. order ≡ []) line all
AreMet steps answers sees tracks old Sent.Waits all = AreSeenBehind steps sees tracks old all
AreMet steps answers sees tracks old (Sent.Marks mark) all = IsMarkTold sees old all

-- a node begins where a run is, with no turn
pub record IsBegunAt {S : Type 0} (met : Met S) (start : Node S) : Type 0 where
  pub state : start.state ≡ met.state
  pub places : start.places.items ≡ met.places.items
  pub order : start.order.items ≡ []

-- why nothing is told behind the tracks' lines: there was no memory, an order of them breaks an expectation, or a limit is exceeded
abbrev pub FailsAt : {S L : Type 0} → (S → L → ℕ → S → Type 0) → (S → L → ℕ) → (S → L → ℕ → Type 0) → List (Vec L) → Limits → Met S → Stop → Type 0
FailsAt {S} steps last breaks tracks limits old stop = (stop ≡ Stop.Memory) ⊎ ((start : Node S) × IsBegunAt old start × Reaches steps last breaks tracks start limits (Err stop))

-- why nothing is told of what a program sends: a line that is sent alone, or a mark, fails for want of memory alone
abbrev pub Fails : {S L P : Type 0} → (S → L → ℕ → S → Type 0) → (S → L → ℕ) → (S → L → ℕ → Type 0) → List (Vec L) → Limits → Met S → Sent P → Stop → Type 0
Fails steps last breaks tracks limits old (Sent.Meets line) stop = FailsAt steps last breaks tracks limits old stop
Fails steps last breaks tracks limits old (Sent.Alone line) stop = stop ≡ Stop.Memory
Fails steps last breaks tracks limits old Sent.Waits stop = FailsAt steps last breaks tracks limits old stop
Fails steps last breaks tracks limits old (Sent.Marks mark) stop = stop ≡ Stop.Memory
