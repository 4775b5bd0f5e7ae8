use Rattle.std.proofs.Common.{refl, subst}
use Rattle.i3c_orders.specs.Paths.{state_behind}
use Rattle.i3c_orders.proofs.orders.extend.Goals as goal

pub returns-clause-sends : goal.returns-clause-sends
returns-clause-sends g c = (
  record { line = c.args.line; taken = c.in-Some.taken; left = c.pop.new.self },
  refl,
  subst (λ steps. g.M.Responder.gives c.args.machine.now (state_behind c.args.start.now c.args.path.now.items) c.args.line steps) c.in-Some.ensures.items c.in-Ok.ensures.given,
  c.in-Ok-keep.ensures.kept,
)
