use Rattle.std.proofs.Common.{length}
use Rattle.i3c_scene.proofs.named.+leave.Given as goal

abbrev pub decreases-leave : goal.decreases-leave
decreases-leave l = length l.names.now
