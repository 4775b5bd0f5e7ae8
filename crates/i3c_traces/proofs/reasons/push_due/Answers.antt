use Rattle.std.proofs.Common.{◌++◌, ◌∷◌, ◌∙◌, [], ap, codes}
use Rattle.i3c_traces.specs.Explained.{due_reason}
use Rattle.i3c_traces.proofs.LintWritten.{three}
use Rattle.i3c_traces.proofs.reasons.push_due.Goals as goal

pub returns : goal.returns
returns c =
    three c.push-3.result c.args.text.now (codes ": ") (due_reason c.args.due) (codes " (docs/FORMATS.md, Symbols and traces)" ++ 10 ∷ [])
    c.push.new.self c.push-2.new.self c.push-3.new.self c.in_ok-push.ensures.appended
    (c.in_ok-push-2.ensures.appended ∙ ap (λ t. c.push.new.self ++ t) c.due_reason.ensures) c.push-3.ensures.appended
