-- No other event changes a slot.
use Rattle.i3c_step.proofs.SlotLaws.{slots_kept}
use Rattle.i3c_step.proofs.laws.slots_are_kept.Goals as goal

pub returns : goal.returns
returns c old event reply new h = slots_kept old event reply new h
