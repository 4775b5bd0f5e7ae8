use Rattle.std.proofs.Common.{ap, is_some, sym, ◌∙◌}
use Rattle.i3c_model.proofs.States.{entry_there}
use Rattle.i3c_model.proofs.plain.Plain.is_given.Goals as goal

pub returns : goal.returns
returns c = c.contains_key.ensures ∙ sym (ap is_some (entry_there c.self.inside c.args.self.now c.self.view_is c.self.invariant c.args.address))
