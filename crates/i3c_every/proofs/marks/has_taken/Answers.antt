use Rattle.std.proofs.Common.{List, subst}
use Rattle.std.specs.List.{Contains}
use Rattle.i3c_every.specs.declared.marks.Taken.{Taken}
use Rattle.i3c_every.specs.Taking.{IsTakenAt}
use Rattle.i3c_every.proofs.marks.has_taken.Goals as goal

pub returns-then-is_taken_at : goal.returns-then-is_taken_at
returns-then-is_taken_at g c = λ sure.
    subst (λ (l : List (Taken g.row.M.Denot)). (taken : Taken g.row.M.Denot) × Contains l taken × IsTakenAt c.args.mark.now c.args.places.now (g.M.Machine.shown c.args.runner.now) taken) c.deref.ensures.value
    (c.is_taken_at.ensures c.if-is_taken_at.true)
