use Rattle.i3c_model.proofs.States.{device_there, is_there}
use Rattle.i3c_model.proofs.plain.Plain.present.Goals as goal

pub returns : goal.returns
returns c = rw c.contains_key.ensures (is_there _ _ (device_there c.self.inside c.args.self.now c.self.view_is c.self.invariant c.args.slot))
