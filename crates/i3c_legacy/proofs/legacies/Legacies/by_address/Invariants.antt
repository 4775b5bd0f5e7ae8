use Rattle.std.proofs.Common.{◌≡◌, take}
use Rattle.i3c_legacy.proofs.LegacyLaws.{lvrs_of}
use Rattle.i3c_legacy.proofs.legacies.Legacies.by_address.Given as goal

abbrev pub invariant-loop-target : goal.invariant-loop-target
invariant-loop-target l = l.lvrs ≡ lvrs_of (take l.target-index l.target-items)
