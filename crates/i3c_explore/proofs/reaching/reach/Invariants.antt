use Rattle.i3c_explore.proofs.Behind.{IsSoFar}
use Rattle.i3c_explore.proofs.reaching.reach.Given as goal

-- orders of as many lines lead to the newest layer, and those with fewer to what was found
abbrev pub invariant-loop : goal.invariant-loop
invariant-loop g l = (count : _) × IsSoFar g.M.Machine.steps g.M.Machine.last l.fn.tracks l.fn.start l.fn.limits count l.found.items l.layer.nodes.items l.layer.limits
