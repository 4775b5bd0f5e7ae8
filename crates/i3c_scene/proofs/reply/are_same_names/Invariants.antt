use Rattle.std.proofs.Common.{◌≡◌, take}
use Rattle.i3c_scene.proofs.reply.are_same_names.Given as goal

-- both begin alike
abbrev pub invariant-loop-index : goal.invariant-loop-index
invariant-loop-index l = take l.index l.fn.names ≡ take l.index l.fn.others
