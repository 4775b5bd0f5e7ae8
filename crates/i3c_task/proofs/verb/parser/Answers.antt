use Rattle.std.proofs.Common.{◌∙◌, ◌<◌, ◌≤◌, length, arith}
use Rattle.i3c_task.proofs.Tables.{first_more, with_all}
use Rattle.i3c_task.proofs.verb.parser.Goals as goal

pub loop-usage-preserved : goal.loop-usage-preserved
loop-usage-preserved c left =
    let made = c.in_ok-command.ensures left in
    let usages = c.usages-usage-items.result.now in
    let i = c.loop-usage.usage-index in
    let below : i < length usages = omega arith in
    c.in_ok-parser-2.ensures.shape made.1 ∙ first_more usages i _ _ _ below (c.loop-usage.invariant left) made.0

pub returns : goal.returns
returns c left =
    let usages = c.usages-usage-items.result.now in
    let end : length usages ≤ c.loop-usage.usage-index = omega arith in
    c.loop-usage.invariant left ∙ with_all usages c.loop-usage.usage-index end c.usages-usage-items.ensures.shapes
