use Rattle.std.proofs.Common.{None, slice_index_or}
use Rattle.i3c_base.specs.Cutting.{cut_of}
use Rattle.i3c_ibi.specs.Driving.{byte_beside, driven}
use Rattle.i3c_ibi.proofs.Scans.{Others, TogetherSoFar}
use Rattle.i3c_ibi.proofs.readings.byte_read.Given as goal

abbrev pub invariant-loop-index : goal.invariant-loop-index
invariant-loop-index l =
    Others l.fn.drivers l.left l.fn.lowest
    × TogetherSoFar (λ s. byte_beside l.cuts l.fn.drivers l.fn.lowest s (slice_index_or l.devices s None)) (driven (cut_of l.cuts l.fn.lowest) l.own) l.left l.both

abbrev pub decreases-loop-index : goal.decreases-loop-index
decreases-loop-index l = l.left.bits
