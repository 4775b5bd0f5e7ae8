use Rattle.std.proofs.Common.{rules, sym}
use Rattle.i3c_wave.proofs.LevelLaws.{level_none, level_some}
use Rattle.i3c_wave.proofs.levels.clocked_level.Goals as goal

pub returns-in_err-sda-clause-level : goal.returns-in_err-sda-clause-level
returns-in_err-sda-clause-level c = let none = level_none _ c.args.index (sym c.in_err-sda.ensures.bit) in search rules

pub returns-clause-level : goal.returns-clause-level
returns-clause-level c = sym (level_some _ c.args.index _ (sym c.in_ok-sda.ensures.bit))
