-- Equal nodes that several jobs found.
use Rattle.std.specs.Prelude.{◌≡◌, ℕ, List, [], ◌∷◌, ◌++◌, IsOkAnd, Result, Some, Contains, slice_get}
use Rattle.std.specs.Global.{Vec}
use Rattle.i3c_explore.specs.declared.node.Node.{Node}
use Rattle.i3c_explore.specs.declared.twin_pair.TwinPair.{TwinPair}

-- two nodes are at the same places, with the same state
pub record AreTwins {S : Type 0} (nodes : List (Node S)) (before later : ℕ) : Type 0 where
  pub one : Node S
  pub other : Node S
  pub first : slice_get nodes before ≡ Some one
  pub second : slice_get nodes later ≡ Some other
  pub places : one.places.items ≡ other.places.items
  pub state : one.state ≡ other.state

-- the nodes of each of these pairs are equal
abbrev pub AllTwins : {S : Type 0} → List (Node S) → List TwinPair → Type 0
AllTwins nodes twins = (twin : TwinPair) → Contains twins twin → AreTwins nodes twin.before twin.later

-- the pairs that all jobs found, in the order of the jobs
abbrev pub AreFound : {E : Type 0} → List (Result (Vec TwinPair) E) → List TwinPair → Type 0
AreFound [] all = all ≡ []
AreFound (made ∷ rest) all = IsOkAnd made (λ (twins : Vec TwinPair). (later : List TwinPair) × (all ≡ twins.items ++ later) × AreFound rest later)
