use Rattle.i3c_every.proofs.Adding.{IsUpTo}
use Rattle.i3c_every.proofs.answered.answers_at.Given as goal

-- the answers at the nodes before were added
abbrev pub invariant-loop-index : goal.invariant-loop-index
invariant-loop-index g l = IsUpTo (g.M.Answering.answers l.fn.rules) l.fn.line l.fn.nodes l.index l.steps.values.items
