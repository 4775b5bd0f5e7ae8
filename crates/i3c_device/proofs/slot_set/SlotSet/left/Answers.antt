-- None of an uncut set is lost.
use Rattle.i3c_device.proofs.SetLaws.{uncut_left}
use Rattle.i3c_device.proofs.slot_set.SlotSet.left.Goals as goal

pub returns-then-is_uncut : goal.returns-then-is_uncut
returns-then-is_uncut c s l = uncut_left c.args.self c.args.cuts.now c.args.last s (c.is_uncut.ensures.0 c.if-is_uncut.true) l
