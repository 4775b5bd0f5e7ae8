use Rattle.std.proofs.Common.{◌≡◌, ◌+◌, length}
use Rattle.i3c_script.specs.Framing.{whole_frames}
use Rattle.i3c_script.proofs.frames.frame_count.Given as goal

abbrev pub invariant-loop-more : goal.invariant-loop-more
invariant-loop-more l = l.count + length (whole_frames l.rest) ≡ length (whole_frames l.fn.symbols)

abbrev pub decreases-loop-more : goal.decreases-loop-more
decreases-loop-more l = length (whole_frames l.rest)
