use Rattle.std.proofs.Common.{length}
use Rattle.i3c_scene.proofs.named.+change.Given as goal

abbrev pub decreases-change : goal.decreases-change
decreases-change l = length l.names.now
