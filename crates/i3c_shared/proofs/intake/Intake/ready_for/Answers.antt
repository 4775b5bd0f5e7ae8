use Rattle.i3c_shared.proofs.Meeting.{begun_raises, end_looked}
use Rattle.i3c_shared.proofs.intake.Intake.ready_for.Goals as goal

pub returns-then-not-covers_one-clause-prefix : goal.returns-then-not-covers_one-clause-prefix
returns-then-not-covers_one-clause-prefix c = rw (← c.self.view_is) (λ pair.
    begun_raises c.covers_one.new.port c.args.port.now.slot c.self.inside.rings.items c.look.new.rings.items c.self.inside.recorder.run c.look.ensures c.self.invariant.fits (c.covers_one.ensures.prefix (end_looked c.args.port.now c.args.port.now.slot c.self.inside.rings.items c.look.new.rings.items c.look.ensures pair)))
