use Rattle.i3c_device.proofs.FindLaws.{Searches}
use Rattle.i3c_device.proofs.occupants.Occupants.lowest.Given as goal

abbrev pub invariant-loop-index : goal.invariant-loop-index
invariant-loop-index g l = Searches (g.S.Sought.finds l.sought) l.fn.among l.left l.self-inside.places

abbrev pub decreases-loop-index : goal.decreases-loop-index
decreases-loop-index g l = l.left.bits
