use Rattle.std.proofs.Common.{◌≡◌, ◌≤◌, ◌++◌, ◌∙◌, ap, length, subst, sym, take}
use Rattle.i3c_monitor.specs.Lint.{all_found}
use Rattle.i3c_monitor.specs.Trace.{behind}
use Rattle.i3c_monitor.proofs.LintLaws.{headed_on}
use Rattle.i3c_monitor.proofs.TraceLaws.{behind_fits}
use Rattle.i3c_monitor.proofs.linter.Linter.take_behind.Goals as goal

pub split_at-requires : goal.split_at-requires
split_at-requires c = subst (λ n. n ≤ length c.args.self.now.rest.now) (sym c.count_behind.ensures) (behind_fits c.args.self.now.rest.now)

pub returns-clause-told : goal.returns-clause-told
returns-clause-told c =
    let self = c.args.self.now in
    let rest = self.rest.now in
    let front : c.split_at.result.0.now ≡ behind rest = c.split_at.ensures.front ∙ ap (λ n. take n rest) c.count_behind.ensures in
    headed_on self.legacies.0 self.mode self.frames self.before self.known self.faults.items c.args.header.now rest c.split_at.result.0.now c.split_at.result.1.now c.count_behind.result
    c.mode_at-mode.result c.in_ok-told.told c.learn.new.self c.push_found.new.faults.items _
    front c.mode_at-mode.ensures c.in_ok-told.ensures c.in_ok-learn.ensures
    (c.in_ok-push_found.ensures ∙ ap (λ found. self.faults.items ++ all_found found) c.checks-found.ensures)
    c.of.ensures c.count_behind.ensures c.split_at.ensures.front_len c.split_at.ensures.back
