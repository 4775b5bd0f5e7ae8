use Rattle.std.proofs.Common.{◌≡◌, ◌<◌, ◌≤◌, ℕ, Some, length}
use Rattle.std.specs.List.{slice_get}
use Rattle.i3c_explore.specs.declared.node.Node.{Node as NodeValue}
use Rattle.i3c_explore.specs.Layers.{IsRestarted}
use Rattle.i3c_explore.proofs.block.restart_all.Given as goal

-- the nodes so far were put back, the others are as they were
abbrev pub invariant-loop-node : goal.invariant-loop-node
invariant-loop-node g l = record {
  length : length l.node-items ≡ length l.initial.node-items;
  restarted : (k : ℕ) → k < l.node-index → (n : NodeValue g.row.M.Denot) → slice_get l.node-items k ≡ Some n → (old : NodeValue g.row.M.Denot) × (slice_get l.initial.node-items k ≡ Some old) × IsRestarted l.count old n;
  left : (k : ℕ) → l.node-index ≤ k → slice_get l.node-items k ≡ slice_get l.initial.node-items k;
}
