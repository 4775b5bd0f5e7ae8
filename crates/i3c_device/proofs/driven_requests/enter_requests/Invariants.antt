use Rattle.i3c_device.proofs.FirstLaws.{RequestsSoFar}
use Rattle.i3c_device.proofs.driven_requests.enter_requests.Given as goal

-- the requests of the slots so far
abbrev pub invariant-loop-index : goal.invariant-loop-index
invariant-loop-index l = RequestsSoFar l.fn.among l.left l.keys l.passed l.requests.items

abbrev pub decreases-loop-index : goal.decreases-loop-index
decreases-loop-index l = l.left.bits
