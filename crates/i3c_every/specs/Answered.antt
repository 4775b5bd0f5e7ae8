-- What a program is told, and where that leads.
use Rattle.std.specs.Prelude.{◌≡◌, ◌⊎◌, ◌++◌, ℕ, List, [], ◌∷◌, Contains}
use Rattle.i3c_explore.specs.declared.node.Node.{Node}
use Rattle.i3c_orders.specs.declared.choice.Step.{Step}
use Rattle.i3c_every.specs.declared.met.Met.{Met}
use Rattle.i3c_every.specs.declared.told.Told.{Told}

-- two steps tell the same, and lead to the same state at the same places
abbrev pub IsAlike : {S A : Type 0} → Step (Met S) (Told A) → Step (Met S) (Told A) → Type 0
IsAlike one other = (one.answer ≡ other.answer) × (one.state.state ≡ other.state.state) × (one.state.places.items ≡ other.state.places.items)

-- a step tells this answer of a line, and leads to this state at these places
abbrev pub Tells : {S A : Type 0} → A → List ℕ → S → Step (Met S) (Told A) → Type 0
Tells answer places state step = (step.answer ≡ Told.Answered answer) × (step.state.places.items ≡ places) × (step.state.state ≡ state)

-- a step is added, unless one that is alike is there
abbrev pub Adds : {S A : Type 0} → Step (Met S) (Told A) → List (Step (Met S) (Told A)) → List (Step (Met S) (Told A)) → Type 0
Adds {S} {A} one old new = (new ≡ old ++ one ∷ []) ⊎ ((new ≡ old) × ((step : Step (Met S) (Told A)) × Contains old step × IsAlike step one))

-- a line is answered at a node, in a way
pub record IsAnsweredAt {S P A : Type 0} (answers : S → P → ℕ → A → S → Type 0) (node : Node S) (line : P) (way : ℕ) (step : Step (Met S) (Told A)) : Type 0 where
  pub answer : A
  pub told : step.answer ≡ Told.Answered answer
  pub led : answers node.state line way answer step.state.state
  pub places : step.state.places.items ≡ node.places.items

-- a step keeps the turns that led to a node, and the way of the line
abbrev pub IsKeptAt : {S A : Type 0} → Node S → ℕ → Step (Met S) (Told A) → Type 0
IsKeptAt node way step = (step.state.turns.items ≡ node.order.items) × (step.state.way ≡ way)

-- the answers of a line at a node are added, in each way
pub record AreAdded {S P A : Type 0} (answers : S → P → ℕ → A → S → Type 0) (node : Node S) (line : P) (old new : List (Step (Met S) (Told A))) : Type 0 where
  pub from : (step : Step (Met S) (Told A)) → Contains new step → Contains old step ⊎ ((way : ℕ) × IsAnsweredAt answers node line way step × IsKeptAt node way step)
  pub kept : (step : Step (Met S) (Told A)) → Contains old step → Contains new step
  pub all : (way : ℕ) → (step : Step (Met S) (Told A)) × Contains new step × IsAnsweredAt answers node line way step

-- these are the answers of a line at some nodes: each is one, and each way of the line at each node is answered by one
pub record AreAnswered {S P A : Type 0} (answers : S → P → ℕ → A → S → Type 0) (nodes : List (Node S)) (line : P) (steps : List (Step (Met S) (Told A))) : Type 0 where
  pub from : (step : Step (Met S) (Told A)) → Contains steps step → (node : Node S) × Contains nodes node × ((way : ℕ) × IsAnsweredAt answers node line way step × IsKeptAt node way step)
  pub all : (node : Node S) → Contains nodes node → (way : ℕ) → (step : Step (Met S) (Told A)) × Contains steps step × IsAnsweredAt answers node line way step
