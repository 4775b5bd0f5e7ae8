use Rattle.std.proofs.Common.{◌≡◌, ◌+◌, ◌≤◌, drop, min}
use Rattle.i3c_tracks.specs.Courses.{count_lines}
use Rattle.i3c_tracks.proofs.course.length_of.Given as goal

abbrev pub invariant-loop-track : goal.invariant-loop-track
invariant-loop-track l = (min (l.length + count_lines (drop l.track-index l.block)) 18446744073709551615 ≡ min (count_lines l.block) 18446744073709551615) × (l.length ≤ 18446744073709551615)
