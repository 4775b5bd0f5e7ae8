-- Where nothing is cut nobody is lost.
use Rattle.std.proofs.Common.{◌∙◌, ap, sym}
use Rattle.i3c_base.specs.Cutting.{is_by}
use Rattle.i3c_device.proofs.slot_set.lost_slots.Goals as goal

pub returns-then-is_empty : goal.returns-then-is_empty
returns-then-is_empty c s l = c.none.ensures s ∙ sym (ap (is_by c.args.last) (c.is_empty.ensures.uncut.0 c.if-is_empty.true s))
