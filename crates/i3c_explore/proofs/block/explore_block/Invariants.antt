use Rattle.i3c_explore.proofs.Noting.{AreNotedSo}
use Rattle.i3c_explore.proofs.Underway.{IsUnderway}
use Rattle.i3c_explore.proofs.block.explore_block.Given as goal

-- every order of the part with `ran` lines leads to a node of the layer, and each node is reached by one; the marks tell of each line whether it is noted in orders with at most `ran` lines
abbrev pub invariant-loop-ran : goal.invariant-loop-ran
invariant-loop-ran g l = record {
  underway : IsUnderway g.M.Machine.steps g.M.Machine.last l.fn.part l.fn.tracks l.fn.starts l.ran l.layer.nodes.items l.layer.limits;
  noted : AreNotedSo g.M.Machine.steps g.M.Machine.notes g.M.Machine.quiet l.fn.part l.fn.tracks l.fn.starts.nodes.items l.ran l.layer.noted.items;
}
