-- Ones below, and nothing new above.
use Rattle.i3c_wires.proofs.TurnLaws.{ones_above, ones_below}
use Rattle.i3c_wires.proofs.arbitration.unheard.Goals as goal

pub returns-clause-above : goal.returns-clause-above
returns-clause-above c = ones_above c.args.bits c.args.left c.requires

pub returns-clause-ones : goal.returns-clause-ones
returns-clause-ones c = ones_below c.args.bits c.args.left c.requires
