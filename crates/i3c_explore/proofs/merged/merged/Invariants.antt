use Rattle.i3c_explore.specs.Runs.{IsWithin}
use Rattle.i3c_explore.proofs.Merging.{AreMerged}
use Rattle.i3c_explore.proofs.merged.merged.Given as goal

-- the nodes so far are put, and it is known where each one went
abbrev pub invariant-loop-node : goal.invariant-loop-node
invariant-loop-node g l = record {
  put : AreMerged l.fn.nodes.items l.yielded l.layer.nodes.items l.places.items;
  within : IsWithin l.fn.limits l.layer 0;
}
