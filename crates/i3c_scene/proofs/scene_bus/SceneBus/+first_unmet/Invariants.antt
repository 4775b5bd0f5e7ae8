use Rattle.std.proofs.Common.{length}
use Rattle.i3c_scene.proofs.scene_bus.SceneBus.+first_unmet.Given as goal

abbrev pub decreases-first_unmet : goal.decreases-first_unmet
decreases-first_unmet l = length l.expectations.now
