-- The layer that follows a range of a layer's nodes.
use Rattle.std.specs.Prelude.{◌≡◌, ◌<◌, ◌≤◌, ℕ, List, Some, Contains, length, slice_get}
use Rattle.std.specs.Global.{Vec}
use Rattle.i3c_explore.specs.declared.node.Node.{Node}
use Rattle.i3c_explore.specs.declared.turn.Turn.{Turn}
use Rattle.i3c_explore.specs.Counts.{IsShared}
use Rattle.i3c_explore.specs.Layers.{IsBreak, IsExpanded, IsSuccessor}
use Rattle.i3c_explore.specs.Parts.{Part, opening}
use Rattle.i3c_explore.specs.Shares.{IsLed, IsMeant, by_tracks}

-- the orders of the nodes in a range are shared out to the next layer, each with each turn that is run, and no other ones; `ran` has the lines of each track that are run from a node, by the node's index
pub record IsSharedIn {S L : Type 0} (Fits : Node S → List ℕ × List (List ℕ) → Type 0) (ran : ℕ → ℕ → List L) (count : ℕ) (layer : List (Node S)) (first last : ℕ) (next : List (Node S)) (share : ℕ → List (List ℕ × List (List ℕ))) : Type 0 where
  pub now : ℕ → List (List ℕ × List (List ℕ))
  pub shared : IsShared next now
  pub meant : IsMeant Fits next now
  pub each : (k : ℕ) → k < last → first ≤ k → (n : Node S) (o : List ℕ × List (List ℕ)) → slice_get layer k ≡ Some n → Contains (by_tracks (ran k) n.places.items count (share k)) o → (j : ℕ) × Contains (now j) o
  pub from : (j : ℕ) (o : List ℕ × List (List ℕ)) → Contains (now j) o → (k : ℕ) × (k < last) × (first ≤ k) × ((n : Node S) × (slice_get layer k ≡ Some n) × Contains (by_tracks (ran k) n.places.items count (share k)) o)

-- the orders of the nodes are shared out to the next ones, for each way to share them
abbrev pub SharesIn : {S L : Type 0} → (S → L → ℕ → S → Type 0) → List (Vec L) → (ℕ → ℕ → List L) → ℕ → List (Node S) → ℕ → ℕ → List (Node S) → Type 0
SharesIn {S} {L} steps tracks ran count layer first last next = (starts : List (Node S)) (past : ℕ → List (List (List ℕ))) (share : ℕ → List (List ℕ × List (List ℕ))) → IsShared layer share
    → IsMeant (IsLed steps tracks starts past) layer share → IsSharedIn (IsLed steps tracks starts past) ran count layer first last next share

-- the nodes in a range are expanded in the next layer
abbrev pub AreExpanded : {S L : Type 0} → (S → L → ℕ → S → Type 0) → (ℕ → ℕ → List L) → ℕ → List (Node S) → ℕ → ℕ → List (Node S) → Type 0
AreExpanded {S} steps ran count layer first last next = (k : ℕ) → k < last → first ≤ k → (n : Node S) → slice_get layer k ≡ Some n → IsExpanded steps (ran k) count n next

-- each node of the next layer follows one of a layer
abbrev pub AreSuccessors : {S L : Type 0} → (S → L → ℕ → S → Type 0) → (ℕ → List L) → List (Node S) → List (Node S) → Type 0
AreSuccessors {S} steps lines layer next = (n : Node S) → Contains next n → (old : Node S) × Contains layer old × IsSuccessor steps lines old n

-- a layer has what the nodes in a range lead to by the lines that are run, with their orders alone; each of its nodes follows one of the whole layer before
pub record IsNextOf {S L : Type 0} (steps : S → L → ℕ → S → Type 0) (tracks : List (Vec L)) (lines : ℕ → List L) (ran : ℕ → ℕ → List L) (layer : List (Node S)) (first last : ℕ) (next : List (Node S)) : Type 0 where
  pub expanded : AreExpanded steps ran (length tracks) layer first last next
  pub from : AreSuccessors steps lines layer next
  pub counted : SharesIn steps tracks ran (length tracks) layer first last next

-- each node of a layer has a place in each track
abbrev pub ArePlaced : {S L : Type 0} → List (Node S) → List (Vec L) → Type 0
ArePlaced {S} layer tracks = (n : Node S) → Contains layer n → length n.places.items ≡ length tracks

-- a layer has what all nodes of a layer lead to, by one more line of the tracks by which orders of a part begin
abbrev pub FollowsAll : {S L : Type 0} → (S → L → ℕ → S → Type 0) → List (Vec L) → Part → List (Node S) → List (Node S) → Type 0
FollowsAll steps tracks part layer next = IsNextOf steps tracks (opening part tracks) (λ _. opening part tracks) layer 0 (length layer) next

-- one more line of this track breaks an expectation behind a node of a layer, in this order
abbrev pub BreaksNext : {S L : Type 0} → (S → L → ℕ → Type 0) → List (Vec L) → Part → List (Node S) → List Turn → Type 0
BreaksNext {S} breaks tracks part layer order = (old : Node S) × Contains layer old × IsBreak breaks (opening part tracks) old order
