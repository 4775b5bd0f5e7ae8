use Rattle.std.proofs.Common.{◌≡◌, drop}
use Rattle.i3c_scene.specs.Trying.{is_expected_in}
use Rattle.i3c_scene.proofs.line.is_expected_in.Given as goal

-- what is expected of the line is among those that are left
abbrev pub invariant-loop-index : goal.invariant-loop-index
invariant-loop-index l = is_expected_in (drop l.index l.expectations) ≡ is_expected_in l.expectations
