use Rattle.std.proofs.Common.{◌≡◌, ◌++◌, length}
use Rattle.i3c_wave.specs.Dump.{after_levels, after_symbol, levels_text, symbol_dump}
use Rattle.i3c_wave.specs.Levels.{levels_left}
use Rattle.i3c_wave.proofs.wave.Wave.push_symbol.Given as goal

-- what is written and what the levels to come are written as; and the dump after these
abbrev pub invariant-loop-level : goal.invariant-loop-level
invariant-loop-level l = record {
  text : l.text ++ levels_text l.timing l.self (levels_left l.levels) ≡ l.fn.text ++ symbol_dump l.fn.legacies.0 l.fn.self l.fn.symbol;
  wave : after_levels l.timing l.self (levels_left l.levels) ≡ after_symbol l.fn.legacies.0 l.fn.self l.fn.symbol;
}

abbrev pub decreases-loop-level : goal.decreases-loop-level
decreases-loop-level l = length (levels_left l.levels)
