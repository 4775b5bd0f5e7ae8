-- All lines are counted.
use Rattle.i3c_tracks.proofs.CourseLaws.{counted_all}
use Rattle.i3c_tracks.proofs.course.length_of.Goals as goal

pub returns : goal.returns
returns c = counted_all c.args.block.now c.loop-track.length c.loop-track.track-index 18446744073709551615 c.loop-track-test.false c.loop-track.invariant.1 c.loop-track.invariant.0
