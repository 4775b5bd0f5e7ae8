use Rattle.std.proofs.Common.{sym, ◌∙◌}
use Rattle.i3c_model.proofs.States.{entry_there, lent_seen}
use Rattle.i3c_model.proofs.plain.Plain.entry.Goals as goal

pub returns : goal.returns
returns c = sym (entry_there c.self.inside c.args.self.now c.self.view_is c.self.invariant c.args.address ∙ (sym c.get.ensures.value ∙ lent_seen c.get.result))
