use Rattle.std.proofs.Common.{◌≤◌, List, length, map, ◌∙◌, ◌||◌, ap, ap₂, sym, arith}
use Rattle.std.proofs.lemmas.List.{map_more, take_all}
use Rattle.std.proofs.lemmas.Result.{IfOk-weaker}
use Rattle.clap.specs.Words.{App, shape_of, with_rule}
use Rattle.clap.specs.declared.builder.command.Command.{Command}
use Rattle.clap.specs.declared.builder.command.Command.TheViews.{out-Command}
use Rattle.i3c_task.specs.declared.argument.Argument.{Argument}
use Rattle.i3c_task.specs.Table.{rule_of_argument}
use Rattle.i3c_task.proofs.Tables.{with_rules}
use Rattle.i3c_task.proofs.verb.command.Goals as goal

pub loop-argument-preserved : goal.loop-argument-preserved
loop-argument-preserved c left =
    let made = c.in_ok-parsed_argument.ensures left in
    let held = c.loop-argument.invariant left in
    let more = map_more rule_of_argument c.args.usage.now.arguments.now c.loop-argument.argument-index _ (omega arith) in (
      c.in_ok-command.ensures.shape made.1 ∙ ap₂ with_rule held.0 made.0 ∙ sym (ap (with_rules c.args.usage.now.name.now) more),
      c.in_ok-command.ensures.globals ∙ ap₂ (λ a b. a || b) held.1 made.1,
    )

pub returns : goal.returns
returns c left =
    let held = c.loop-argument.invariant left in
    let arguments = c.args.usage.now.arguments.now in
    let end : length arguments ≤ c.loop-argument.argument-index = omega arith in
    let all = ap (λ (l : List Argument). with_rules c.args.usage.now.name.now (map rule_of_argument l)) (take_all c.loop-argument.argument-index arguments end) in
    IfOk-weaker c.grouped.result _ _
    (λ r is. (ap shape_of is ∙ ap (λ (a : App). a.top) (held.0 ∙ all), ap (λ (x : Command). (out-Command x).has_globals) is ∙ held.1))
    (c.grouped.ensures left)
