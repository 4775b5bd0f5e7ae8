use Rattle.std.proofs.Common.{rules, ◌≡◌, ◌≤◌, ◌∙◌, ap, length, subst, sym, take}
use Rattle.i3c_monitor.specs.Trace.{behind, count_behind, rest_told}
use Rattle.i3c_monitor.specs.Told.{told}
use Rattle.i3c_monitor.proofs.TraceLaws.{after_behind, behind_fits, goes_on}
use Rattle.i3c_monitor.proofs.monitor.Monitor.take_behind.Goals as goal

pub split_at-requires : goal.split_at-requires
split_at-requires c = subst (λ n. n ≤ length c.args.self.now.rest.now) (sym c.count_behind.ensures) (behind_fits c.args.self.now.rest.now)

pub returns-in-Ok-clause-told : goal.returns-in-Ok-clause-told
returns-in-Ok-clause-told c =
    let self = c.args.self.now in
    let rest = self.rest.now in
    let front : c.split_at.result.0.now ≡ behind rest = c.split_at.ensures.front ∙ ap (λ n. take n rest) c.count_behind.ensures in
    goes_on (told self.codes self.mode c.args.header.now (behind rest) self.before) c.in-Ok.told
    (λ next. rest_told self.codes next self.frames self.before (count_behind rest) rest) _
    (ap (λ symbols. told self.codes self.mode c.args.header.now symbols self.before) (sym front) ∙ c.in-Ok.ensures)
    (after_behind self.codes c.in-Ok.told.mode self.frames self.before c.count_behind.result rest c.split_at.result.0.now c.split_at.result.1.now c.count_behind.ensures c.split_at.ensures.front_len c.split_at.ensures.back)

pub returns-in-Err-Refused-clause-told : goal.returns-in-Err-Refused-clause-told
returns-in-Err-Refused-clause-told c = search rules
