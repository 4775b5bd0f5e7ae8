-- What a program that waits sees.
use Rattle.std.specs.Prelude.{◌≡◌, ◌≢◌, ◌⊎◌, List, [], Contains}
use Rattle.i3c_explore.specs.declared.node.Node.{Node}
use Rattle.i3c_orders.specs.declared.choice.Step.{Step}
use Rattle.i3c_every.specs.declared.met.Met.{Met}
use Rattle.i3c_every.specs.declared.told.Told.{Told}

-- a program that waited sees the state of a node, before which lines of the tracks ran
pub record IsSeenAt {S A : Type 0} (sees : S → A → Type 0) (node : Node S) (step : Step (Met S) (Told A)) : Type 0 where
  pub answer : A
  pub told : step.answer ≡ Told.Happened answer
  pub seen : sees node.state answer
  pub state : step.state.state ≡ node.state
  pub places : step.state.places.items ≡ node.places.items
  pub ran : node.order.items ≢ []

-- a step keeps the turns that led to a node
abbrev pub HasTurnsOf : {S A : Type 0} → Node S → Step (Met S) (Told A) → Type 0
HasTurnsOf node step = step.state.turns.items ≡ node.order.items

-- what is seen at a node is added, if lines ran before it
pub record IsSeenAdded {S A : Type 0} (sees : S → A → Type 0) (node : Node S) (old new : List (Step (Met S) (Told A))) : Type 0 where
  pub from : (step : Step (Met S) (Told A)) → Contains new step → Contains old step ⊎ (IsSeenAt sees node step × HasTurnsOf node step)
  pub kept : (step : Step (Met S) (Told A)) → Contains old step → Contains new step
  pub all : node.order.items ≢ [] → (step : Step (Met S) (Told A)) × Contains new step × IsSeenAt sees node step

-- what is seen at all nodes before which lines ran
pub record AreSeen {S A : Type 0} (sees : S → A → Type 0) (nodes : List (Node S)) (steps : List (Step (Met S) (Told A))) : Type 0 where
  pub from : (step : Step (Met S) (Told A)) → Contains steps step → (node : Node S) × Contains nodes node × IsSeenAt sees node step × HasTurnsOf node step
  pub all : (node : Node S) → Contains nodes node → node.order.items ≢ [] → (step : Step (Met S) (Told A)) × Contains steps step × IsSeenAt sees node step
