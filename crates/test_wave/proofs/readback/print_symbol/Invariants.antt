use Rattle.std.proofs.Common.{length}
use Rattle.i3c_wave.specs.Levels.{levels_left}
use Rattle.test_wave.proofs.readback.print_symbol.Given as goal

abbrev pub decreases-loop-level : goal.decreases-loop-level
decreases-loop-level g l = length (levels_left l.levels)
