use Rattle.std.proofs.Common.{vec_len}
use Rattle.i3c_stress.proofs.stressing.fn.post_and_serve.scope.Given as goal

abbrev pub decreases-loop-handle : goal.decreases-loop-handle
decreases-loop-handle g l = vec_len l.handles
