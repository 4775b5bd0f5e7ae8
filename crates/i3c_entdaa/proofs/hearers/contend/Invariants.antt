use Rattle.std.proofs.Common.{◌≤◌}
use Rattle.i3c_base.specs.declared.range.TheConstants.{SLOTS}
use Rattle.i3c_entdaa.proofs.HearersLaws.{AreLeftFrom, ContendersSoFar}
use Rattle.i3c_entdaa.proofs.hearers.contend.Given as goal

-- the contenders of the slots so far, and the hearers after them
abbrev pub invariant-loop-index : goal.invariant-loop-index
invariant-loop-index l = record { so_far : ContendersSoFar l.devices l.first l.keys.items; low : l.first ≤ SLOTS; left : AreLeftFrom l.devices l.first l.left }

abbrev pub decreases-loop-index : goal.decreases-loop-index
decreases-loop-index l = l.left.bits
