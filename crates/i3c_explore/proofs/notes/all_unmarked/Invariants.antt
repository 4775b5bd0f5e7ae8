use Rattle.std.proofs.Common.{◌≡◌, ◌<◌, ℕ, length}
use Rattle.i3c_explore.specs.Blocks.{block}
use Rattle.i3c_explore.specs.Notes.{HasShape, IsUnmarked}
use Rattle.i3c_explore.proofs.notes.all_unmarked.Given as goal

-- the blocks so far have marks, none of which is set
abbrev pub invariant-loop-index : goal.invariant-loop-index
invariant-loop-index g l = record {
  sized : length l.noted.items ≡ l.index;
  shaped : (b : ℕ) → b < l.index → HasShape (block l.fn.blocks b) (block l.noted.items b);
  none : (b : ℕ) → IsUnmarked (block l.noted.items b);
}
