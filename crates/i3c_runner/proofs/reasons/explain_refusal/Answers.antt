use Rattle.std.proofs.Common.{◌≡◌, ◌∙◌, [], ◌∷◌, ◌++◌, ap, codes}
use Rattle.i3c_lines.specs.Refusing.{refusal_text}
use Rattle.i3c_runner.specs.Reasons.{line_start, reason_text}
use Rattle.i3c_runner.proofs.Reasoned.{six_behind}
use Rattle.i3c_runner.proofs.reasons.explain_refusal.Goals as goal

pub returns : goal.returns
returns c =
    let why = c.args.why.now in
    let reason = reason_text c.args.command.now why in
    let same : c.as_bytes.result.now ≡ reason = c.as_bytes.ensures.value ∙ c.reason.ensures in
    six_behind c.push-5.result c.args.text.now c.begin.new.text c.push.new.self c.push-2.new.text c.push-3.new.self c.push-4.new.self c.push-5.new.self
    (line_start c.args.number) (codes "refused ") (refusal_text why) (codes ": ") reason (codes " (docs/FORMATS.md, Refusals of lines)" ++ 10 ∷ [])
    c.in_ok-begin.ensures c.in_ok-push.ensures.appended c.in_ok-push-2.ensures c.in_ok-push-3.ensures.appended (c.in_ok-push-4.ensures.appended ∙ ap (λ t. c.push-3.new.self ++ t) same) c.push-5.ensures.appended
