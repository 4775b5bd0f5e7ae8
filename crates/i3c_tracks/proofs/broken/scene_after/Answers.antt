-- One line more leads on.
use Rattle.std.proofs.Common.{subst}
use Rattle.i3c_scene.specs.Scenes.{Seen}
use Rattle.i3c_tracks.specs.Courses.{RunsLead}
use Rattle.i3c_tracks.proofs.CourseLaws.{leads_more, none_left}
use Rattle.i3c_tracks.proofs.broken.scene_after.Goals as goal

pub loop-index-init : goal.loop-index-init
loop-index-init c end led = subst (λ (s : Seen). RunsLead s c.args.earlier.now end) c.in_ok-scene.ensures led

pub loop-index-preserved : goal.loop-index-preserved
loop-index-preserved c end led =
    c.loop-index.invariant end (leads_more c.args.earlier.now c.loop-index.index c.index-earlier-index.result c.loop-index.scene c.in_ok-scene-2.scene end c.loop-index-test.true c.index-earlier-index.is c.in_ok-scene-2.ensures led)

pub returns : goal.returns
returns c = c.loop-index.invariant c.loop-index.scene (none_left c.args.earlier.now c.loop-index.index c.loop-index.scene c.loop-index-test.false)
