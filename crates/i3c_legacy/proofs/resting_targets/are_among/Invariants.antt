use Rattle.std.proofs.Common.{take}
use Rattle.std.specs.List.{All, Contains}
use Rattle.i3c_legacy.proofs.resting_targets.are_among.Given as goal

-- the targets so far are among the others
abbrev pub invariant-loop-target : goal.invariant-loop-target
invariant-loop-target l = All (Contains l.others) (take l.target-index l.placed)
