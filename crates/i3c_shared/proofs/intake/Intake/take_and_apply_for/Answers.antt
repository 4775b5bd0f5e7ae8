use Rattle.i3c_shared.proofs.Growing.{all_raised, grown}
use Rattle.i3c_shared.proofs.Meeting.{all_prefix}
use Rattle.i3c_shared.proofs.intake.Intake.take_and_apply_for.Goals as goal

pub returns-clause-prefix : goal.returns-clause-prefix
returns-clause-prefix c = λ pair.
    all_prefix _ _ (all_raised c.ready_for.new.port c.args.port.now.slot c.ready_for.new.self.log c.take_up.new.self.log c.apply.new.self.log c.args.event c.apply.result (c.in_ok-ready_for.ensures.whole pair) c.take_up.ensures.taken.left c.take_up.ensures.fits c.apply.ensures.made c.requires)

pub returns-clause-all : goal.returns-clause-all
returns-clause-all c = λ pair.
    all_raised c.ready_for.new.port c.args.port.now.slot c.ready_for.new.self.log c.take_up.new.self.log c.apply.new.self.log c.args.event c.apply.result (c.in_ok-ready_for.ensures.whole pair) c.take_up.ensures.taken.left c.take_up.ensures.fits c.apply.ensures.made c.requires

pub returns-clause-grows : goal.returns-clause-grows
returns-clause-grows c = (c.apply.ensures.memory, grown _ _ _ _ _ _ c.ready_for.ensures.same c.take_up.ensures.taken c.apply.ensures.made)
