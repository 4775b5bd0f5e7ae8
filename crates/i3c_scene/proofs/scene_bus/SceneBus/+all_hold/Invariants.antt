use Rattle.std.proofs.Common.{length}
use Rattle.i3c_scene.proofs.scene_bus.SceneBus.+all_hold.Given as goal

abbrev pub decreases-all_hold : goal.decreases-all_hold
decreases-all_hold l = length l.expectations.now
