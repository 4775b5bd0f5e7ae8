use Rattle.std.proofs.Common.{drop}
use Rattle.i3c_scene.specs.Scenes.{Seen}
use Rattle.i3c_tracks.specs.Courses.{RunsLead}
use Rattle.i3c_tracks.proofs.broken.scene_after.Given as goal

-- wherever the lines that are left lead to, all lines lead to from the start
abbrev pub invariant-loop-index : goal.invariant-loop-index
invariant-loop-index l = (end : Seen) → RunsLead l.scene (drop l.index l.earlier) end → RunsLead l.start l.earlier end
