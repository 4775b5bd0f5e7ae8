use Rattle.i3c_tracks.specs.Courses.{RunIn}
use Rattle.i3c_tracks.proofs.course.runs_of.Given as goal

abbrev pub invariant-loop-index : goal.invariant-loop-index
invariant-loop-index l = RunIn l.blocks l.opened l.order l.index l.runs.items l.rest
