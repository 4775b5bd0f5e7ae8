use Rattle.std.proofs.Common.{◌∙◌, [], ◌∷◌, ◌++◌, ap, codes}
use Rattle.std.specs.Fmt.{decimal}
use Rattle.i3c_lines.specs.Naming.{letters}
use Rattle.i3c_runner.specs.Reasons.{line_start}
use Rattle.i3c_runner.proofs.Reasoned.{six_behind}
use Rattle.i3c_runner.proofs.reasons.explain_cut.Goals as goal

pub returns : goal.returns
returns c =
    six_behind c.push-4.result c.args.text.now c.begin.new.text c.push.new.self c.push_decimal.new.self c.push-2.new.self c.push-3.new.self c.push-4.new.self
    (line_start c.args.number) (codes "no frame reached bit ") (decimal c.args.bit) (codes ", and the cut of ") (letters c.args.name.now) (codes " is used up (docs/FORMATS.md, Cuts)" ++ 10 ∷ [])
    c.in_ok-begin.ensures c.in_ok-push.ensures.appended (c.in_ok-push_decimal.ensures ∙ ap (λ n. c.push.new.self ++ decimal n) c.from.ensures) c.in_ok-push-2.ensures.appended
    (c.in_ok-push-3.ensures.appended ∙ ap (λ t. c.push-2.new.self ++ t) c.as_bytes.ensures) c.push-4.ensures.appended
