use Rattle.i3c_explore.specs.Owners.{AreOwned}
use Rattle.i3c_explore.proofs.owners.owners_by_place.Given as goal

abbrev pub invariant-loop-place : goal.invariant-loop-place
invariant-loop-place l = AreOwned l.owners.items l.fn.jobs
