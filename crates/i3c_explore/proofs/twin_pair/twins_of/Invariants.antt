use Rattle.i3c_explore.specs.Twins.{AllTwins}
use Rattle.i3c_explore.proofs.twin_pair.twins_of.Given as goal

-- those so far are twins
abbrev pub invariant-loop-later : goal.invariant-loop-later
invariant-loop-later g l = AllTwins l.fn.nodes l.twins.items
