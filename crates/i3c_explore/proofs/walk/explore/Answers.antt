use Rattle.std.proofs.Common.{subst}
use Rattle.i3c_explore.specs.Explorations.{Explores}
use Rattle.i3c_explore.specs.Parts.{Part}
use Rattle.i3c_explore.proofs.walk.explore.Goals as goal

pub returns : goal.returns
returns g c = subst (λ (p : Part). Explores g.M.Machine.steps g.M.Machine.last g.M.Machine.breaks g.M.Machine.notes g.M.Machine.quiet p c.args.blocks.now c.args.start c.args.limits c.explore_part.result) c.whole.ensures c.explore_part.ensures
