use Rattle.i3c_device.proofs.KindLaws.{and_bit}
use Rattle.i3c_device.proofs.slot_set.SlotSet.and.Goals as goal

pub returns : goal.returns
returns c s l = and_bit c.args.self.bits c.args.other.bits s
