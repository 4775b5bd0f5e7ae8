use Rattle.std.proofs.Common.{◌≡◌, take}
use Rattle.i3c_script.proofs.same_piece.are_same.Given as goal

-- both begin alike
abbrev pub invariant-loop-index : goal.invariant-loop-index
invariant-loop-index l = take l.index l.fn.pieces ≡ take l.index l.fn.others
