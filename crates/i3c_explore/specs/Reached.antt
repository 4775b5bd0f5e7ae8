-- Nodes that are reached from a node, by lines that are left in the tracks.
use Rattle.std.specs.Prelude.{◌≡◌, ◌<◌, ◌+◌, ◌⊎◌, ℕ, List, [], ◌∷◌, ◌++◌, Contains, Err, Ok, Result, reverse}
use Rattle.std.specs.Global.{Vec}
use Rattle.i3c_explore.specs.declared.limits.Limits.{Limits}
use Rattle.i3c_explore.specs.declared.node.Node.{Node}
use Rattle.i3c_explore.specs.declared.stop.Stop.{Stop}
use Rattle.i3c_explore.specs.declared.stop.Stop.TheVariants.{Breaks, Memory, Most}
use Rattle.i3c_explore.specs.declared.turn.Turn.{Turn}
use Rattle.i3c_explore.specs.Layers.{IsNextAt, advanced}
use Rattle.i3c_explore.specs.Nexts.{FollowsAll}
use Rattle.i3c_explore.specs.Orders.{track}
use Rattle.i3c_explore.specs.Parts.{whole}
use Rattle.i3c_explore.specs.Runs.{runs_behind}

-- the places behind some turns, the newest first
abbrev pub places_after : List ℕ → List Turn → List ℕ
places_after places [] = places
places_after places (turn ∷ before) = advanced turn.track (places_after places before)

-- behind some turns, the line that a turn takes
abbrev pub IsTaken : {L : Type 0} → List (Vec L) → List ℕ → List Turn → Turn → L → Type 0
IsTaken tracks places before turn line = IsNextAt (track tracks) (places_after places before) turn.track line

-- each turn takes a line that is left in the tracks
abbrev pub AreTaken : {L : Type 0} → List (Vec L) → List ℕ → List Turn → Type 0
AreTaken tracks places [] = Unit {0}
AreTaken {L} tracks places (turn ∷ before) = AreTaken tracks places before × ((line : L) × IsTaken tracks places before turn line)

-- these lines lead from a state to another one
abbrev pub LeadsFrom : {S L : Type 0} → (S → L → ℕ → S → Type 0) → List (Vec L) → List ℕ → S → List Turn → S → Type 0
LeadsFrom steps tracks places start [] end = end ≡ start
LeadsFrom {S} {L} steps tracks places start (turn ∷ before) end = (mid : S) × (line : L) × LeadsFrom steps tracks places start before mid × IsTaken tracks places before turn line × steps mid line turn.way end

-- they lead from a node to another one
abbrev pub LeadsToNode : {S L : Type 0} → (S → L → ℕ → S → Type 0) → List (Vec L) → Node S → List Turn → Node S → Type 0
LeadsToNode steps tracks start order node = (node.places.items ≡ places_after start.places.items order) × LeadsFrom steps tracks start.places.items start.state order node.state

-- the nodes that are reached from a node: each order of lines that are left leads to one, and each is reached by the order that it has behind that of the node
pub record AreReached {S L : Type 0} (steps : S → L → ℕ → S → Type 0) (tracks : List (Vec L)) (start : Node S) (found : List (Node S)) : Type 0 where
  pub all : (order : List Turn) → AreTaken tracks start.places.items order → (n : Node S) × Contains found n × LeadsToNode steps tracks start order n
  pub from : (n : Node S) → Contains found n → (order : List Turn) × (n.order.items ≡ start.order.items ++ reverse order) × LeadsToNode steps tracks start order n

-- the newest line of an order breaks an expectation, where those before it lead
pub record BreaksFrom {S L : Type 0} (steps : S → L → ℕ → S → Type 0) (breaks : S → L → ℕ → Type 0) (tracks : List (Vec L)) (start : Node S) (order : List Turn) : Type 0 where
  pub before : List Turn
  pub turn : Turn
  pub mid : S
  pub line : L
  pub is : order ≡ start.order.items ++ reverse (turn ∷ before)
  pub led : LeadsFrom steps tracks start.places.items start.state before mid
  pub taken : IsTaken tracks start.places.items before turn line
  pub broken : breaks mid line turn.way

-- layers behind a node, the newest first: each has what the one before it leads to by one more line
abbrev pub AreLayersBehind : {S L : Type 0} → (S → L → ℕ → S → Type 0) → List (Vec L) → Node S → List (List (Node S)) → List (Node S) → Type 0
AreLayersBehind steps tracks start [] layer = layer ≡ start ∷ []
AreLayersBehind steps tracks start (layer ∷ before) next = AreLayersBehind steps tracks start before layer × FollowsAll steps tracks whole layer next

-- how often lines are run from all of these layers
abbrev pub runs_of_all : {S L : Type 0} → (S → L → ℕ) → List (Vec L) → List (List (Node S)) → ℕ
runs_of_all last tracks [] = 0
runs_of_all last tracks (layer ∷ before) = runs_of_all last tracks before + runs_behind last whole tracks layer

-- a limit is exceeded in a layer: up to it there are more runs of lines than steps, or from it alone more than a layer may have states
pub record ExceedsBehind {S L : Type 0} (steps : S → L → ℕ → S → Type 0) (last : S → L → ℕ) (tracks : List (Vec L)) (start : Node S) (limits : Limits) : Type 0 where
  pub before : List (List (Node S))
  pub layer : List (Node S)
  pub layers : AreLayersBehind steps tracks start before layer
  pub over : (limits.steps < runs_of_all last tracks (layer ∷ before)) ⊎ (limits.states < runs_behind last whole tracks layer)

-- what is reached from a node; or an order that breaks an expectation, or that a limit is exceeded, or that there was no memory
abbrev pub Reaches : {S L : Type 0} → (S → L → ℕ → S → Type 0) → (S → L → ℕ) → (S → L → ℕ → Type 0) → List (Vec L) → Node S → Limits → Result (Vec (Node S)) Stop → Type 0
Reaches steps last breaks tracks start limits (Ok found) = AreReached steps tracks start found.items
Reaches steps last breaks tracks start limits (Err (Breaks order)) = BreaksFrom steps breaks tracks start order.items
Reaches steps last breaks tracks start limits (Err Most) = ExceedsBehind steps last tracks start limits
Reaches steps last breaks tracks start limits (Err Memory) = Unit {0}
