-- Numbers of orders.
use Rattle.std.specs.Prelude.{◌≡◌, ℕ, ◌<◌, List, [], ◌∷◌, Some, Contains, length, slice_get}
use Rattle.i3c_explore.specs.declared.node.Node.{Node}
use Rattle.i3c_explore.specs.declared.turn.Turn.{Turn}
use Rattle.i3c_explore.specs.Numbers.{IsNumber}

-- An interleaving is the list of an order's tracks, the newest first. An interleaving of each of some blocks is a history, the newest block first.
-- the order of an interleaving in which each line goes way 0
abbrev pub plain : List ℕ → List Turn
plain [] = []
plain (t ∷ before) = record { track = t; way = 0 } ∷ plain before

-- no two elements of a list are equal
abbrev pub AllDistinct : {A : Type 0} → List A → Type 0
AllDistinct [] = Unit {0}
AllDistinct (x ∷ xs) = (Contains xs x → ⊥) × AllDistinct xs

-- orders are shared out among nodes: each to one node, which tells their number
pub record IsShared {S O : Type 0} (layer : List (Node S)) (share : ℕ → List O) : Type 0 where
  pub number : (k : ℕ) (n : Node S) → slice_get layer k ≡ Some n → IsNumber n.orders (length (share k))
  pub distinct : (k : ℕ) → AllDistinct (share k)
  pub apart : (i j : ℕ) (o : O) → Contains (share i) o → Contains (share j) o → i ≡ j
  pub within : (k : ℕ) (o : O) → Contains (share k) o → k < length layer
