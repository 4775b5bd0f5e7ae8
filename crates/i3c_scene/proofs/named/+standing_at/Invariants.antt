use Rattle.std.proofs.Common.{length}
use Rattle.i3c_scene.proofs.named.+standing_at.Given as goal

abbrev pub decreases-standing_at : goal.decreases-standing_at
decreases-standing_at l = length l.names.now
