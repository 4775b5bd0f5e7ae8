use Rattle.std.proofs.Common.{◌≡◌, length}
use Rattle.i3c_draw.specs.Traces.{last_level}
use Rattle.i3c_wave.specs.Levels.{levels_left, levels_of}
use Rattle.i3c_draw.proofs.traces.last_level.Given as goal

-- the last of the levels to come is that of all
abbrev pub invariant-loop-level : goal.invariant-loop-level
invariant-loop-level l = last_level l.last (levels_left l.levels) ≡ last_level l.fn.before (levels_of l.fn.symbol)

abbrev pub decreases-loop-level : goal.decreases-loop-level
decreases-loop-level l = length (levels_left l.levels)
