-- What is dropped is counted.
use Rattle.std.proofs.Common.{◌∙◌, ◌+◌, length, min, refl}
use Rattle.i3c_script.proofs.Forgetting.{dropped}
use Rattle.i3c_script.proofs.settings.Settings.forget.Goals as goal

pub returns-clause-forgets : goal.returns-clause-forgets
returns-clause-forgets c =
    dropped c.args.last c.args.self.now (record c.args.self.now { forgotten = c.args.self.now.forgotten + c.min-count.result }) c.args.bus.now.state c.forget.new.self.state c.min-count.result
    (c.min-count.ensures ∙ (λ i. min (c.saturating_sub.ensures i) (length (c.records.ensures i)))) c.forget.ensures.left refl
