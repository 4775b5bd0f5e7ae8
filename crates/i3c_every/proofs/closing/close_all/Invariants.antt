use Rattle.i3c_every.proofs.Closed.{AreClosed}
use Rattle.i3c_every.proofs.closing.close_all.Given as goal

-- from the nodes before all leads on
abbrev pub invariant-loop-index : goal.invariant-loop-index
invariant-loop-index g l = AreClosed g.M.Machine.steps l.fn.tracks l.fn.rest l.fn.nodes l.index
