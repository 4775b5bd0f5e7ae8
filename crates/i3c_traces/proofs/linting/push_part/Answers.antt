use Rattle.std.proofs.Common.{◌++◌, ◌∙◌, ap, codes, length, map, take}
use Rattle.i3c_traces.specs.Linted.{more_text, printable}
use Rattle.i3c_traces.proofs.LintWritten.{four}
use Rattle.i3c_traces.proofs.linting.push_part.Goals as goal

pub returns : goal.returns
returns c =
    let part = c.args.part.now in
    four c.push-3.result c.args.text.now (codes " '") (map printable (take 16 part)) (more_text (length part)) (codes "'")
    c.push.new.self c.push_printable.new.text c.push-2.new.self c.push-3.new.self c.in_ok-push.ensures.appended
    (c.in_ok-push_printable.ensures ∙ ap (λ bytes. c.push.new.self ++ map printable bytes) c.front_of.ensures)
    (c.in_ok-push-2.ensures.appended ∙ ap (λ more. c.push_printable.new.text ++ more) c.more_text.ensures)
    c.push-3.ensures.appended
