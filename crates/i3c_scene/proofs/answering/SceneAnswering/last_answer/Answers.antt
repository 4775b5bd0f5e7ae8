-- Each way is answered as one of those up to the last one is.
use Rattle.std.proofs.Common.{ℕ, ◌≤◌, subst, sym}
use Rattle.i3c_scene.proofs.Late.{command_late}
use Rattle.i3c_scene.proofs.Replied.{line_replies}
use Rattle.i3c_scene.proofs.answering.SceneAnswering.last_answer.Goals as goal

pub returns-clause-last : goal.returns-clause-last
returns-clause-last c way =
    let rules = c.args.rules.now in
    let command = c.command.result.now in
    let (tried, (le, leads)) = command_late c.args.self.now command rules.risk way in (
      tried,
      subst (λ (n : ℕ). tried ≤ n) (sym c.latest.ensures.way) le,
      λ answer new replies. line_replies rules c.args.self.now c.args.line.now command tried way answer new c.command.ensures.0 leads replies,
    )
