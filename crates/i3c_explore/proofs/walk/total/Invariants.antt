use Rattle.std.proofs.Common.{ℕ, List, length}
use Rattle.i3c_explore.specs.Counts.{IsShared}
use Rattle.i3c_explore.specs.Shares.{all_below}
use Rattle.i3c_explore.specs.Numbers.{IsNumber}
use Rattle.i3c_explore.proofs.walk.total.Given as goal

-- the orders of the nodes so far are counted
abbrev pub invariant-loop-node : goal.invariant-loop-node
invariant-loop-node g l = (share : ℕ → List (List (List ℕ))) → IsShared l.nodes share → IsNumber l.orders (length (all_below share l.node-index))
