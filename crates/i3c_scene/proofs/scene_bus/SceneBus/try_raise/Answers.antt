-- A raise changes its slot alone, and is what the line does.
use Rattle.i3c_scene.proofs.Behind.{raised_behind, raised_runs}
use Rattle.i3c_scene.proofs.scene_bus.SceneBus.try_raise.Goals as goal

pub returns-in-Ok-clause-tried : goal.returns-in-Ok-clause-tried
returns-in-Ok-clause-tried c =
    let new = c.raise.new.self in
    let before = c.in-Ok.raised in (
      before,
      raised_runs c.args.self.now new c.args.line.now.command c.args.line.now.risk before c.args.slot c.args.byte c.requires c.in-Ok.ensures,
      c.outcome.ensures,
    )

pub returns-in-Ok-clause-behind : goal.returns-in-Ok-clause-behind
returns-in-Ok-clause-behind c = raised_behind c.args.self.now c.raise.new.self c.args.slot c.args.byte c.in-Ok.raised c.in-Ok.ensures
