use Rattle.i3c_shared.proofs.Growing.{takes_from}
use Rattle.i3c_shared.proofs.intake.Intake.command.Goals as goal

pub returns : goal.returns
returns g c = (
  c.frame.ensures.memory,
  (
    record {
      seen = c.ready.new.self.log.rings;
      looked = c.ready.ensures.same.rings;
      mid = c.take_up.new.self.log;
      takes = takes_from _ _ _ c.ready.ensures.same c.take_up.ensures.taken;
      makes = c.frame.ensures.made;
    },
    c.frame.ensures.asked,
    c.frame.ensures.told,
  ),
)
