use Rattle.std.proofs.Common.{◌≡◌, [], ap, length, rules, sym}
use Rattle.i3c_wave.specs.Levels.{levels_left, levels_of}
use Rattle.i3c_wave.proofs.LevelLaws.{left_none, left_some}
use Rattle.i3c_wave.proofs.levels.LevelsIterator.next.Goals as goal

pub returns-in_err-level-clause-steps : goal.returns-in_err-level-clause-steps
returns-in_err-level-clause-steps c =
    let none : levels_left c.args.self.now ≡ [] = left_none (levels_of c.args.self.now.symbol) c.args.self.now.index (sym c.in_err-level.ensures.level) in
    search rules

pub returns-clause-steps : goal.returns-clause-steps
returns-clause-steps c = left_some (levels_of c.args.self.now.symbol) c.args.self.now.index c.in_ok-level.level (sym c.in_ok-level.ensures.level)

pub returns-clause-goes : goal.returns-clause-goes
returns-clause-goes c =
    let fewer = ap length (left_some (levels_of c.args.self.now.symbol) c.args.self.now.index c.in_ok-level.level (sym c.in_ok-level.ensures.level)) in
    search rules
