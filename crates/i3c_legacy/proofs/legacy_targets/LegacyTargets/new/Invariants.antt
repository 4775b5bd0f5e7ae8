use Rattle.std.proofs.Common.{◌≡◌, take}
use Rattle.std.specs.Prelude.{map}
use Rattle.i3c_legacy.proofs.TargetLaws.{placed_of}
use Rattle.i3c_legacy.proofs.legacy_targets.LegacyTargets.new.Given as goal

-- the targets so far are placed
abbrev pub invariant-loop-declared : goal.invariant-loop-declared
invariant-loop-declared l = l.placed.items ≡ map placed_of (take l.declared-index l.declared-items)
