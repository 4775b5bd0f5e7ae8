-- A line is answered in the ways that stand for its own.
use Rattle.std.proofs.Common.{◌∙◌}
use Rattle.std.proofs.lemmas.Result.{IfOk-weaker}
use Rattle.i3c_scene.proofs.Replied.{line_answered}
use Rattle.i3c_scene.proofs.answering.SceneAnswering.answer.Goals as goal

pub returns : goal.returns
returns c =
    IfOk-weaker c.reply.result _ _ (λ answer. line_answered c.args.rules.now c.args.self.now c.deref_mut-live.result.now c.reply.new.self c.args.line.now c.command-command.result.now c.ways_tried-tried.result c.args.way answer c.command-command.ensures.0 (c.deref_mut-live.ensures.value ∙ c.in_ok-wake_to.ensures) c.ways_tried-tried.ensures.ways)
    c.reply.ensures
