use Rattle.i3c_device.proofs.KindLaws.{or_bit}
use Rattle.i3c_device.proofs.slot_set.SlotSet.or.Goals as goal

pub returns : goal.returns
returns c s l = or_bit c.args.self.bits c.args.other.bits s
