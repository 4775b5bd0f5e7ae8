use Rattle.std.proofs.lemmas.List.{get_or-replicate}
use Rattle.i3c_stress.proofs.devices.no_raises.Goals as goal

pub returns : goal.returns
returns c = λ slot below. get_or-replicate 64 slot 0 0 below
