use Rattle.std.proofs.Common.{◌∙◌}
use Rattle.i3c_task.proofs.Tables.{name_of_rows}
use Rattle.i3c_task.proofs.Verbs.{verb_named}
use Rattle.i3c_task.proofs.task.task_given.Goals as goal

-- words without a fault name a verb
pub unreachable-requires : goal.unreachable-requires
unreachable-requires c =
    let read = c.requires in
    let named = verb_named _ read.0 in
    c.in-None.ensures named.0 (name_of_rows c.args.matches.now _ _ (read.1 ∙ named.2))
