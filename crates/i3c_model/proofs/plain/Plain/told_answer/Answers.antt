use Rattle.i3c_base.specs.Cutting.{lost_by}
use Rattle.i3c_model.proofs.Told.{told_left}
use Rattle.i3c_model.proofs.plain.Plain.told_answer.Goals as goal

pub returns-then-is_any_left_at : goal.returns-then-is_any_left_at
returns-then-is_any_left_at c =
    rw c.in-Done.is (told_left c.args.self.now c.args.what c.args.at (lost_by c.args.cuts.now c.args.last) c.told_together.result (c.is_any_left_at.ensures.0 c.if-is_any_left_at.true) c.told_together.ensures.all c.told_together.ensures.together)
