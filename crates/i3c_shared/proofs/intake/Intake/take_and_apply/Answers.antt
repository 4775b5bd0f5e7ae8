use Rattle.i3c_shared.proofs.Growing.{takes_from}
use Rattle.i3c_shared.proofs.intake.Intake.take_and_apply.Goals as goal

pub returns : goal.returns
returns g c = (
  c.apply.ensures.memory,
  (
    record {
      seen = c.ready.new.self.log.rings;
      looked = c.ready.ensures.same.rings;
      mid = c.take_up.new.self.log;
      takes = takes_from _ _ _ c.ready.ensures.same c.take_up.ensures.taken;
      makes = c.apply.ensures.made;
    },
    c.apply.ensures.told,
  ),
)
