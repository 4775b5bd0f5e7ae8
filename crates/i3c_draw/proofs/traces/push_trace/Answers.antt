use Rattle.std.proofs.Common.{◌∙◌, ◌++◌, ap, refl}
use Rattle.std.specs.Prelude.{codes, decimal}
use Rattle.i3c_wave.specs.Levels.{levels_of}
use Rattle.i3c_draw.specs.Traces.{depth, level_width, steps_text}
use Rattle.i3c_draw.proofs.Appended.{last_part, one_part}
use Rattle.i3c_draw.proofs.traces.push_trace.Goals as goal

pub returns : goal.returns
returns c =
    let old = c.args.text.now in
    let rest-3 = codes "'/>" in
    let rest-2 = steps_text c.args.which (level_width c.args.symbol) (levels_of c.args.symbol) ++ rest-3 in
    let rest-1 = decimal (depth c.args.which c.args.before) ++ rest-2 in
    let rest-0 = codes "<path d='M0 " ++ rest-1 in
    let whole = old ++ rest-0 in
    let part-1 = one_part whole old c.push.new.self (codes "<path d='M0 ") rest-1 refl c.in_ok-push.ensures.appended in
    let part-2 = one_part whole c.push.new.self c.push_decimal.new.self (decimal (depth c.args.which c.args.before)) rest-2 part-1 (c.in_ok-push_decimal.ensures ∙ ap (λ number. c.push.new.self ++ decimal number) c.depth.ensures) in
    let part-3 = one_part whole c.push_decimal.new.self c.push_steps.new.text (steps_text c.args.which (level_width c.args.symbol) (levels_of c.args.symbol)) rest-3 part-2 c.in_ok-push_steps.ensures in
    last_part c.push-2.result whole c.push_steps.new.text c.push-2.new.self rest-3 part-3 c.push-2.ensures.appended
