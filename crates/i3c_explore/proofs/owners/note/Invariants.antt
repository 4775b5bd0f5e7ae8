use Rattle.i3c_explore.specs.Owners.{AreOwned}
use Rattle.i3c_explore.proofs.owners.note.Given as goal

abbrev pub invariant-loop-weight : goal.invariant-loop-weight
invariant-loop-weight l = AreOwned l.owners.items l.fn.jobs
