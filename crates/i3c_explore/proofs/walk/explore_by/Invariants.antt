use Rattle.i3c_explore.proofs.Noting.{AreTold}
use Rattle.i3c_explore.proofs.Walking.{IsWalked}
use Rattle.i3c_explore.proofs.walk.explore_by.Given as goal

-- each course of the part of the blocks so far leads to a node of the layer, and each node is reached by one; the marks tell of each line whether it is noted in these courses
abbrev pub invariant-loop-index : goal.invariant-loop-index
invariant-loop-index g l = record {
  walked : IsWalked g.M.Machine.steps g.M.Machine.last l.fn.part l.fn.blocks l.fn.start l.fn.limits l.index l.layer.nodes.items l.layer.limits;
  told : AreTold g.M.Machine.steps g.M.Machine.notes g.M.Machine.quiet l.fn.part l.fn.blocks l.fn.start l.index l.noted.items;
}
