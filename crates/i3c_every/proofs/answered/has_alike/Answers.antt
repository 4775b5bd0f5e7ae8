use Rattle.std.proofs.Common.{List, subst}
use Rattle.std.specs.List.{Contains}
use Rattle.i3c_orders.specs.declared.choice.Step.{Step}
use Rattle.i3c_every.specs.Answered.{Tells}
use Rattle.i3c_every.specs.declared.met.Met.{Met}
use Rattle.i3c_every.specs.declared.told.Told.{Told}
use Rattle.i3c_every.proofs.answered.has_alike.Goals as goal

pub returns-then-is_alike_at : goal.returns-then-is_alike_at
returns-then-is_alike_at g c = λ sure.
    subst (λ (l : List (Step (Met g.row.M.Denot) (Told g.row.M-Answer.Denot))). (step : Step (Met g.row.M.Denot) (Told g.row.M-Answer.Denot)) × Contains l step × Tells c.args.answer.now c.args.places.now (g.M.Machine.shown c.args.runner.now) step) c.deref.ensures.value
    (c.is_alike_at.ensures c.if-is_alike_at.true)
