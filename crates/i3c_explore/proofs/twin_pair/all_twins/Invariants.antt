use Rattle.i3c_explore.specs.Twins.{AreFound}
use Rattle.i3c_explore.proofs.twin_pair.all_twins.Given as goal

-- the twins are those that the jobs so far found
abbrev pub invariant-loop-made : goal.invariant-loop-made
invariant-loop-made l = AreFound l.yielded l.all.items
