use Rattle.std.proofs.Common.{◌≡◌, ◌++◌, length}
use Rattle.i3c_draw.specs.Traces.{level_width, steps_text}
use Rattle.i3c_wave.specs.Levels.{levels_left, levels_of}
use Rattle.i3c_draw.proofs.traces.push_steps.Given as goal

-- the steps of the levels to come
abbrev pub invariant-loop-level : goal.invariant-loop-level
invariant-loop-level l = l.text ++ steps_text l.fn.which l.width (levels_left l.levels) ≡ l.initial.text ++ steps_text l.fn.which (level_width l.fn.symbol) (levels_of l.fn.symbol)

abbrev pub decreases-loop-level : goal.decreases-loop-level
decreases-loop-level l = length (levels_left l.levels)
