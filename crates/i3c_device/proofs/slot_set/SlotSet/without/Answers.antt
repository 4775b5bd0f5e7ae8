use Rattle.std.proofs.Common.{arith}
use Rattle.std.specs.Int.{w64}
use Rattle.i3c_device.proofs.KindLaws.{without_bit}
use Rattle.i3c_device.proofs.slot_set.SlotSet.without.Goals as goal

pub returns : goal.returns
returns c s l = without_bit w64 c.args.self.bits c.args.other.bits s (omega arith) (omega (arith, l))
