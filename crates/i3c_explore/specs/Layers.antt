-- Layers of states, which the walk over all orders keeps.
use Rattle.std.specs.Prelude.{◌≡◌, ◌⊎◌, ℕ, ◌==◌, if◌then◌else◌, suc, List, [], ◌∷◌, ◌++◌, Option, Some, Contains, length, reverse, slice_get, slice_index, slice_set, ◌<◌}
use Rattle.std.specs.Global.{Vec}
use Rattle.i3c_explore.specs.declared.node.Node.{Node}
use Rattle.i3c_explore.specs.declared.turn.Turn.{Turn}
use Rattle.i3c_explore.specs.Numbers.{IsSum}
use Rattle.i3c_explore.specs.Parts.{Part}
use Rattle.i3c_explore.specs.Splits.{IsInPart}
use Rattle.i3c_explore.specs.Orders.{Breaks, IsPrefix, Leads, turns_of}

-- the layer has a node at these places, with this state
abbrev pub Has : {S : Type 0} → List (Node S) → List ℕ → S → Type 0
Has {S} layer places state = (n : Node S) × Contains layer n × (n.places.items ≡ places) × (n.state ≡ state)

-- what a layer had it has
abbrev pub Keeps : {S : Type 0} → List (Node S) → List (Node S) → Type 0
Keeps {S} old new = (places : List ℕ) (state : S) → Has old places state → Has new places state

-- two nodes are equal except for the numbers of their orders
abbrev pub IsLike : {S : Type 0} → Node S → Node S → Type 0
IsLike one other = (one.state ≡ other.state) × (one.places.items ≡ other.places.items) × (one.order.items ≡ other.order.items)

-- the node at an index is at these places, with this state
abbrev pub IsAlikeAt : {S : Type 0} → List (Node S) → ℕ → List ℕ → S → Type 0
IsAlikeAt {S} layer index places state = (held : Node S) × (slice_get layer index ≡ Some held) × (held.places.items ≡ places) × (held.state ≡ state)

-- a node's orders are added to those of one that is alike
pub record IsMerged {S : Type 0} (old : List (Node S)) (node : Node S) (new : List (Node S)) : Type 0 where
  pub index : ℕ
  pub held : Node S
  pub total : Option ℕ
  pub found : slice_get old index ≡ Some held
  pub places : held.places.items ≡ node.places.items
  pub state : held.state ≡ node.state
  pub sum : IsSum held.orders node.orders total
  pub is : new ≡ slice_set old index (record held { orders = total })

-- a node is put into a layer: behind the others, or merged with one that is alike
abbrev pub IsPut : {S : Type 0} → List (Node S) → Node S → List (Node S) → Type 0
IsPut old node new = (new ≡ old ++ node ∷ []) ⊎ IsMerged old node new

-- nodes are put into a layer, one after another
abbrev pub ArePut : {S : Type 0} → List (Node S) → List (Node S) → List (Node S) → Type 0
ArePut old [] new = new ≡ old
ArePut {S} old (node ∷ rest) new = (mid : List (Node S)) × IsPut old node mid × ArePut mid rest new

-- one more line of a track has run
abbrev pub advanced : ℕ → List ℕ → List ℕ
advanced t places = slice_set places t (suc (slice_index places t))

-- the orders that one more turn of some orders makes: those of way 0 are counted
abbrev pub by_way : ℕ → Option ℕ → Option ℕ
by_way way orders = if way == 0 then orders else Some 0

-- one more turn of a node leads to a state, and is put into a layer: as a node behind the others, or merged with one that is alike
pub record IsPutBehind {S : Type 0} (old : List (Node S)) (node : Node S) (turn : Turn) (end : S) (new : List (Node S)) : Type 0 where
  pub made : Node S
  pub state : made.state ≡ end
  pub places : made.places.items ≡ advanced turn.track node.places.items
  pub orders : made.orders ≡ by_way turn.way node.orders
  pub put : ((made.order.items ≡ node.order.items ++ turn ∷ []) × (new ≡ old ++ made ∷ [])) ⊎ IsMerged old made new

-- the line of a track that runs next at these places, by the lines of each track
abbrev pub IsNextAt : {L : Type 0} → (ℕ → List L) → List ℕ → ℕ → L → Type 0
IsNextAt lines places t line = slice_get (lines t) (slice_index places t) ≡ Some line

-- a node follows another one by one line of a track
pub record IsSuccessor {S L : Type 0} (steps : S → L → ℕ → S → Type 0) (lines : ℕ → List L) (old new : Node S) : Type 0 where
  pub turn : Turn
  pub line : L
  pub next : IsNextAt lines old.places.items turn.track line
  pub step : steps old.state line turn.way new.state
  pub places : new.places.items ≡ advanced turn.track old.places.items
  pub order : new.order.items ≡ old.order.items ++ turn ∷ []

-- the nodes of a layer were there, or follow a node
abbrev pub AreFrom : {S L : Type 0} → (S → L → ℕ → S → Type 0) → (ℕ → List L) → Node S → List (Node S) → List (Node S) → Type 0
AreFrom {S} steps lines node old new = (n : Node S) → Contains new n → ((m : Node S) × Contains old m × IsLike n m) ⊎ IsSuccessor steps lines node n

-- a line after a node breaks an expectation, in this order
pub record IsBreak {S L : Type 0} (breaks : S → L → ℕ → Type 0) (lines : ℕ → List L) (old : Node S) (order : List Turn) : Type 0 where
  pub turn : Turn
  pub line : L
  pub next : IsNextAt lines old.places.items turn.track line
  pub broken : breaks old.state line turn.way
  pub is : order ≡ old.order.items ++ turn ∷ []

-- the layer has what a track's next line leads to, in every way
abbrev pub IsTracked : {S L : Type 0} → (S → L → ℕ → S → Type 0) → (ℕ → List L) → ℕ → Node S → List (Node S) → Type 0
IsTracked {S} {L} steps lines t node layer = (line : L) → IsNextAt lines node.places.items t line → (way : ℕ) → (new : S) × steps node.state line way new × Has layer (advanced t node.places.items) new

-- the layer has what the next lines of the tracks below a number lead to
abbrev pub IsExpanded : {S L : Type 0} → (S → L → ℕ → S → Type 0) → (ℕ → List L) → ℕ → Node S → List (Node S) → Type 0
IsExpanded steps lines count node layer = (t : ℕ) → t < count → IsTracked steps lines t node layer

-- a node is reached from a start by its order, and is at the places where the order leaves off
pub record IsReached {S L : Type 0} (steps : S → L → ℕ → S → Type 0) (tracks : List (Vec L)) (start node : Node S) : Type 0 where
  pub turns : List Turn
  pub sized : length node.places.items ≡ length tracks
  pub placed : (t : ℕ) → turns_of t turns ≡ slice_index node.places.items t
  pub order : node.order.items ≡ start.order.items ++ reverse turns
  pub led : Leads steps tracks start.state turns node.state

-- an order leads from a state to a node of the layer
abbrev pub Holds : {S L : Type 0} → (S → L → ℕ → S → Type 0) → List (Vec L) → S → List (Node S) → List Turn → Type 0
Holds {S} steps tracks start layer order =
    (n : Node S) × Contains layer n × ((t : ℕ) → turns_of t order ≡ slice_index n.places.items t) × Leads steps tracks start order n.state

-- a layer begins a block: the same states, with no line of it run
abbrev pub IsRestarted : {S : Type 0} → ℕ → Node S → Node S → Type 0
IsRestarted count old new = (new.state ≡ old.state) × (new.order.items ≡ old.order.items) × (new.orders ≡ old.orders) × ((t : ℕ) → slice_index new.places.items t ≡ 0) × (length new.places.items ≡ count)

-- each node of a layer begins a block, from the one of its index
abbrev pub AreRestarted : {S : Type 0} → ℕ → List (Node S) → List (Node S) → Type 0
AreRestarted {S} count starts layer = (n : Node S) (k : ℕ) → slice_get layer k ≡ Some n → (s : Node S) × (slice_get starts k ≡ Some s) × IsRestarted count s n

-- a layer has the start alone, to which the order without a turn leads
abbrev pub IsAlone : {S : Type 0} → S → List (Node S) → Type 0
IsAlone {S} start layer = (n : Node S) × (layer ≡ n ∷ []) × (n.state ≡ start) × (n.order.items ≡ []) × (n.orders ≡ Some 1)

-- the first of a part's shortest orders that break an expectation: each shorter one of the part leads on
pub record IsFirstBreak {S L : Type 0} (steps : S → L → ℕ → S → Type 0) (breaks : S → L → ℕ → Type 0) (part : Part) (tracks : List (Vec L)) (starts : List (Node S)) (order : List Turn) : Type 0 where
  pub start : Node S
  pub at : Contains starts start
  pub turns : List Turn
  pub is : order ≡ start.order.items ++ reverse turns
  pub in_part : IsInPart part.index part.of turns
  pub broken : Breaks steps breaks tracks start.state turns
  pub shortest : (from : Node S) → Contains starts from → (other : List Turn) → length other < length turns → IsPrefix tracks other → IsInPart part.index part.of other → (end : S) × Leads steps tracks from.state other end
