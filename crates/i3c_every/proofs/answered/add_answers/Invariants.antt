use Rattle.i3c_every.proofs.Adding.{IsWayUp}
use Rattle.i3c_every.proofs.answered.add_answers.Given as goal

-- the answers in the ways before were added
abbrev pub invariant-loop-way : goal.invariant-loop-way
invariant-loop-way g l = IsWayUp (g.M.Answering.answers l.fn.rules) l.fn.line l.fn.node l.way l.initial.steps.values.items l.steps.values.items
