use Rattle.std.proofs.Common.{◌≡◌, length, take}
use Rattle.i3c_drive.proofs.driver.are_same.Given as goal

-- the names so far are the same
abbrev pub invariant-loop-index : goal.invariant-loop-index
invariant-loop-index l = (take l.index l.names ≡ take l.index l.others) × (length l.names ≡ length l.others)
