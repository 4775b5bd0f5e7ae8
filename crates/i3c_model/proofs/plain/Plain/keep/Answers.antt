use Rattle.i3c_model.proofs.States.{recorded_there}
use Rattle.i3c_model.proofs.plain.Plain.keep.Goals as goal

pub returns-clause-kept : goal.returns-clause-kept
returns-clause-kept c = recorded_there c.self.inside c.args.self.now c.self.view_is c.self.invariant c.push.new.self c.args.taken c.in_ok-push.ensures.items
