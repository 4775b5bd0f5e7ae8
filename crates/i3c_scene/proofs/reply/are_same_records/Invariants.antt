use Rattle.std.proofs.Common.{◌≡◌, take}
use Rattle.i3c_scene.proofs.reply.are_same_records.Given as goal

-- both begin alike
abbrev pub invariant-loop-index : goal.invariant-loop-index
invariant-loop-index l = take l.index l.fn.records ≡ take l.index l.fn.others
