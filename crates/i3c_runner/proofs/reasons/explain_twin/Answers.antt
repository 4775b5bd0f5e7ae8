use Rattle.std.proofs.Common.{◌∙◌, [], ◌∷◌, ◌++◌, ap, codes}
use Rattle.i3c_lines.specs.Naming.{letters}
use Rattle.i3c_runner.specs.Reasons.{line_start}
use Rattle.i3c_runner.proofs.Reasoned.{five_behind}
use Rattle.i3c_runner.proofs.reasons.explain_twin.Goals as goal

pub returns : goal.returns
returns c =
    five_behind c.push-4.result c.args.text.now c.begin.new.text c.push.new.self c.push-2.new.self c.push-3.new.self c.push-4.new.self
    (line_start c.args.number) (letters c.args.name.now) (codes " has the identity of ") (letters c.args.other.now) (codes ", which is there; the promises leave such devices out (docs/PROMISES.md)" ++ 10 ∷ [])
    c.in_ok-begin.ensures (c.in_ok-push.ensures.appended ∙ ap (λ t. c.begin.new.text ++ t) c.as_bytes.ensures) c.in_ok-push-2.ensures.appended (c.in_ok-push-3.ensures.appended ∙ ap (λ t. c.push-2.new.self ++ t) c.as_bytes-2.ensures)
    c.push-4.ensures.appended
