use Rattle.std.proofs.Common.{◌≡◌, drop}
use Rattle.i3c_tracks.specs.Drafting.{awaited}
use Rattle.i3c_tracks.specs.Planning.{step_of}
use Rattle.i3c_tracks.proofs.open_block.expect_always.Given as goal

abbrev pub invariant-loop-index : goal.invariant-loop-index
invariant-loop-index l = awaited (step_of l.line) (drop l.index l.always) ≡ awaited (step_of l.initial.line) l.always
