use Rattle.std.proofs.Common.{◌∙◌, ap, sym}
use Rattle.i3c_monitor.specs.Lint.{linted}
use Rattle.i3c_monitor.specs.Linting.{to_come}
use Rattle.i3c_monitor.proofs.LintLaws.{header_first, told_too}
use Rattle.i3c_monitor.proofs.linter.Linter.take.Goals as goal

pub returns-in-Some-clause-told : goal.returns-in-Some-clause-told
returns-in-Some-clause-told c =
    let self = c.args.self.now in
    told_too c.take_behind.result (to_come self) _ (to_come c.take_behind.new.self) c.take_behind.ensures.told
    (ap (λ symbols. linted self.legacies.0 self.mode self.frames self.before self.known self.faults.items 0 symbols) c.requires
    ∙ header_first self.legacies.0 self.mode self.frames self.before self.known self.faults.items c.args.symbol.now c.args.rest.now c.in-Some.header (sym c.in-Some.ensures))
