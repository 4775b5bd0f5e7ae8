use Rattle.std.proofs.Common.{sym, ◌∙◌}
use Rattle.i3c_model.proofs.States.{device_there, lent_seen}
use Rattle.i3c_model.proofs.plain.Plain.device.Goals as goal

pub returns : goal.returns
returns c = sym (device_there c.self.inside c.args.self.now c.self.view_is c.self.invariant c.args.slot ∙ (sym c.get.ensures.value ∙ lent_seen c.get.result))
