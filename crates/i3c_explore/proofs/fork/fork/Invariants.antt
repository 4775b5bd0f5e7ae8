use Rattle.std.proofs.Common.{◌≡◌, ◌+◌, drop}
use Rattle.i3c_explore.specs.Parts.{fork}
use Rattle.i3c_explore.proofs.fork.fork.Given as goal

-- none of the blocks so far has two tracks with a line
abbrev pub invariant-loop-index : goal.invariant-loop-index
invariant-loop-index g l = l.index + fork (drop l.index l.blocks) ≡ fork l.blocks
