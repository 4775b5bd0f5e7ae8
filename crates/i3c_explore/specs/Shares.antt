-- The orders of a layer that each node has a share of, which the walk over all orders keeps.
use Rattle.std.specs.Prelude.{◌≡◌, ℕ, ◌==◌, suc, zero, List, [], ◌∷◌, ◌++◌, Option, None, Some, Contains, length, map, if◌then◌else◌, slice_get, slice_index, ◌⊎◌}
use Rattle.std.specs.Global.{Vec}
use Rattle.i3c_explore.specs.declared.node.Node.{Node}
use Rattle.i3c_explore.specs.declared.turn.Turn.{Turn}
use Rattle.i3c_explore.specs.Numbers.{IsNumber}
use Rattle.i3c_explore.specs.Orders.{IsOrder, Leads, turns_of}
use Rattle.i3c_explore.specs.Counts.{AllDistinct, IsShared, plain}
use Rattle.i3c_explore.specs.Parts.{Part}
use Rattle.i3c_explore.specs.Splits.{IsInPart}

-- the shares of the nodes below an index, one after another
abbrev pub all_below : {O : Type 0} → (ℕ → List O) → ℕ → List O
all_below share zero = []
all_below share (suc k) = all_below share k ++ share k

-- a node's share of the orders of a block: they begin with what a start has a share of, and lead to the node
pub record IsLed {S L : Type 0} (steps : S → L → ℕ → S → Type 0) (tracks : List (Vec L)) (starts : List (Node S)) (past : ℕ → List (List (List ℕ))) (node : Node S) (order : List ℕ × List (List ℕ)) : Type 0 where
  pub from : ℕ
  pub start : Node S
  pub at : slice_get starts from ≡ Some start
  pub before : Contains (past from) order.1
  pub placed : (t : ℕ) → turns_of t (plain order.0) ≡ slice_index node.places.items t
  pub led : Leads steps tracks start.state (plain order.0) node.state

-- each of a node's share is meant for it
abbrev pub IsMeant : {S O : Type 0} → (Node S → O → Type 0) → List (Node S) → (ℕ → List O) → Type 0
IsMeant {S} {O} Fits layer share = (k : ℕ) (o : O) → Contains (share k) o → (n : Node S) × (slice_get layer k ≡ Some n) × Fits n o

-- what one node has a share of
abbrev pub IsOwn : {S O : Type 0} → (Node S → O → Type 0) → Node S → List O → Type 0
IsOwn {S} {O} Fits node own = IsNumber node.orders (length own) × AllDistinct own × ((o : O) → Contains own o → Fits node o)

-- more orders were shared out, in a new layer
pub record IsSharedOn {S O : Type 0} (Fits : Node S → O → Type 0) (new : List (Node S)) (share : ℕ → List O) (more : List O) : Type 0 where
  pub now : ℕ → List O
  pub shared : IsShared new now
  pub meant : IsMeant Fits new now
  pub kept : (k : ℕ) (o : O) → Contains (share k) o → (j : ℕ) × Contains (now j) o
  pub added : (o : O) → Contains more o → (j : ℕ) × Contains (now j) o
  pub from : (j : ℕ) (o : O) → Contains (now j) o → ((k : ℕ) × Contains (share k) o) ⊎ Contains more o

-- a layer gains orders
abbrev pub IsAdded : {S O : Type 0} → (Node S → O → Type 0) → List (Node S) → List (Node S) → List O → Type 0
IsAdded {S} {O} Fits old new more = (share : ℕ → List O) → IsShared old share → IsMeant Fits old share
    → ((k : ℕ) (o : O) → Contains (share k) o → Contains more o → ⊥) → IsSharedOn Fits new share more

-- an interleaving with one more turn
abbrev pub longer : ℕ → List ℕ × List (List ℕ) → List ℕ × List (List ℕ)
longer t order = (t ∷ order.0, order.1)

-- the orders that a turn leads on: none in another way than 0
abbrev pub by_turn : Turn → List (List ℕ × List (List ℕ)) → List (List ℕ × List (List ℕ))
by_turn turn own = if turn.way == 0 then map (longer turn.track) own else []

-- the orders of a state, each longer by a track's line, if that line goes at least one way
abbrev pub by_ways : ℕ → ℕ → List (List ℕ × List (List ℕ)) → List (List ℕ × List (List ℕ))
by_ways zero t own = []
by_ways (suc ways) t own = map (longer t) own

-- the orders that a track's next line leads on, if it has one
abbrev pub by_line : {L : Type 0} → Option L → ℕ → List (List ℕ × List (List ℕ)) → List (List ℕ × List (List ℕ))
by_line None t own = []
by_line (Some line) t own = map (longer t) own

abbrev pub by_track : {L : Type 0} → (ℕ → List L) → List ℕ → ℕ → List (List ℕ × List (List ℕ)) → List (List ℕ × List (List ℕ))
by_track lines places t own = by_line (slice_get (lines t) (slice_index places t)) t own

-- the orders that the tracks below a number lead on
abbrev pub by_tracks : {L : Type 0} → (ℕ → List L) → List ℕ → ℕ → List (List ℕ × List (List ℕ)) → List (List ℕ × List (List ℕ))
by_tracks lines places zero own = []
by_tracks lines places (suc t) own = by_tracks lines places t own ++ by_track lines places t own

-- a layer gains the orders that are made of a node's own ones
abbrev pub Gains : {S L : Type 0} → (S → L → ℕ → S → Type 0) → List (Vec L) → Node S → List (Node S) → List (Node S) → (List (List ℕ × List (List ℕ)) → List (List ℕ × List (List ℕ))) → Type 0
Gains {S} steps tracks node old new made = (starts : List (Node S)) (past : ℕ → List (List (List ℕ))) (own : List (List ℕ × List (List ℕ))) → IsOwn (IsLed steps tracks starts past) node own
    → IsAdded (IsLed steps tracks starts past) old new (made own)

-- the orders of a layer are shared out to the next one, each with each turn that can follow, and no other ones
pub record IsSharedNext {S L : Type 0} (Fits : Node S → List ℕ × List (List ℕ) → Type 0) (lines : ℕ → List L) (count : ℕ) (layer next : List (Node S)) (share : ℕ → List (List ℕ × List (List ℕ))) : Type 0 where
  pub now : ℕ → List (List ℕ × List (List ℕ))
  pub shared : IsShared next now
  pub meant : IsMeant Fits next now
  pub each : (k : ℕ) (n : Node S) (order : List ℕ × List (List ℕ)) → slice_get layer k ≡ Some n → Contains (by_tracks lines n.places.items count (share k)) order → (j : ℕ) × Contains (now j) order
  pub from : (j : ℕ) (order : List ℕ × List (List ℕ)) → Contains (now j) order → (k : ℕ) × ((n : Node S) × (slice_get layer k ≡ Some n) × Contains (by_tracks lines n.places.items count (share k)) order)

-- the orders of a part of a block are shared out to its ends: each interleaving behind each order that leads to a start
pub record AreShared {S L : Type 0} (steps : S → L → ℕ → S → Type 0) (part : Part) (tracks : List (Vec L)) (starts ends : List (Node S)) (past : ℕ → List (List (List ℕ))) : Type 0 where
  pub share : ℕ → List (List ℕ × List (List ℕ))
  pub shared : IsShared ends share
  pub led : (k : ℕ) (order : List ℕ × List (List ℕ)) → Contains (share k) order → IsOrder tracks (plain order.0) × IsInPart part.index part.of (plain order.0)
      × ((n : Node S) × (slice_get ends k ≡ Some n) × ((i : ℕ) × (s : Node S) × (slice_get starts i ≡ Some s) × Contains (past i) order.1 × Leads steps tracks s.state (plain order.0) n.state))
  pub each : (i : ℕ) (before : List (List ℕ)) → Contains (past i) before → (tracks_run : List ℕ) → IsOrder tracks (plain tracks_run) → IsInPart part.index part.of (plain tracks_run) → (k : ℕ) × Contains (share k) (tracks_run, before)
