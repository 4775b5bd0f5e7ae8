use Rattle.i3c_every.proofs.Looking.{IsUpTo}
use Rattle.i3c_every.proofs.seen.seen_at.Given as goal

-- what is seen at the nodes before was added
abbrev pub invariant-loop-index : goal.invariant-loop-index
invariant-loop-index g l = IsUpTo g.M.Answering.sees l.fn.nodes l.index l.steps.items
