use Rattle.std.proofs.Common.{◌≡◌, ◌++◌, drop}
use Rattle.i3c_tracks.specs.Unexpected.{marked_blocks}
use Rattle.i3c_tracks.proofs.unexpected.add_blocks.Given as goal

abbrev pub invariant-loop-index : goal.invariant-loop-index
invariant-loop-index l = l.numbers.items ++ marked_blocks (drop l.index l.blocks) (drop l.index l.marks) ≡ l.initial.numbers.items ++ marked_blocks l.blocks l.marks
