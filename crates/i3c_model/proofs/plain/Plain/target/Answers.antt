use Rattle.std.proofs.Common.{sym, ◌∙◌}
use Rattle.i3c_model.proofs.States.{lent_seen, target_there}
use Rattle.i3c_model.proofs.plain.Plain.target.Goals as goal

pub returns : goal.returns
returns c = sym (target_there c.self.inside c.args.self.now c.self.view_is c.self.invariant c.args.address ∙ (sym c.get.ensures.value ∙ lent_seen c.get.result))
