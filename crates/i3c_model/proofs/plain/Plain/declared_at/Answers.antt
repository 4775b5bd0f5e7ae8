use Rattle.std.proofs.Common.{sym, ◌∙◌}
use Rattle.i3c_model.proofs.States.{declared_there}
use Rattle.i3c_model.proofs.plain.Plain.declared_at.Goals as goal

pub returns : goal.returns
returns c = c.copied.ensures ∙ (c.get.ensures.value ∙ sym (declared_there c.self.inside c.args.self.now c.self.view_is c.self.invariant c.args.address))
