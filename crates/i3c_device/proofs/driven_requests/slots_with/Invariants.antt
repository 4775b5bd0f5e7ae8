use Rattle.std.proofs.Common.{◌==◌, slice_index}
use Rattle.i3c_device.proofs.FindLaws.{ChosenSoFar}
use Rattle.i3c_device.proofs.driven_requests.slots_with.Given as goal

-- those of the slots so far that have the key
abbrev pub invariant-loop-index : goal.invariant-loop-index
invariant-loop-index l = ChosenSoFar (λ s. slice_index l.keys s == l.driven) l.fn.among l.left l.slots

abbrev pub decreases-loop-index : goal.decreases-loop-index
decreases-loop-index l = l.left.bits
