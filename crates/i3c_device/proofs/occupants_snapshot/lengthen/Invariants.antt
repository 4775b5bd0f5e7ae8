use Rattle.std.proofs.Common.{◌≡◌, ◌≤◌, ℕ, get_or, length, None}
use Rattle.i3c_base.specs.declared.range.TheConstants.{SLOTS}
use Rattle.i3c_device.proofs.occupants_snapshot.lengthen.Given as goal

abbrev pub invariant-loop-index : goal.invariant-loop-index
invariant-loop-index l =
    (length l.places.items ≤ SLOTS) × (l.index ≤ length l.places.items) × ((s : ℕ) → get_or l.places.items s None ≡ get_or l.initial.places.items s None)
