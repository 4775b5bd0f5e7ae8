use Rattle.i3c_device.proofs.EachLaws.{Walks}
use Rattle.i3c_device.proofs.occupants.Occupants.each.Given as goal

abbrev pub invariant-loop-index : goal.invariant-loop-index
invariant-loop-index g l = Walks (g.H.SlotUpdate.after l.update) l.fn.among l.left l.self-inside.marks l.initial.self-inside.places l.self-inside.places

abbrev pub decreases-loop-index : goal.decreases-loop-index
decreases-loop-index g l = l.left.bits
