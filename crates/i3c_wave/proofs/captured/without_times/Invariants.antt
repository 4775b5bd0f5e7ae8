use Rattle.std.proofs.Common.{◌≡◌, ◌++◌, drop, map}
use Rattle.i3c_wave.specs.Found.{without_time}
use Rattle.i3c_wave.proofs.captured.without_times.Given as goal

-- the marks so far, and those to come
abbrev pub invariant-loop-mark : goal.invariant-loop-mark
invariant-loop-mark l = map without_time l.fn.marks ≡ l.bare.items ++ map without_time (drop l.mark-index l.fn.marks)
