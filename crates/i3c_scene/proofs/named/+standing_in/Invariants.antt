use Rattle.std.proofs.Common.{length}
use Rattle.i3c_scene.proofs.named.+standing_in.Given as goal

abbrev pub decreases-standing_in : goal.decreases-standing_in
decreases-standing_in l = length l.names.now
