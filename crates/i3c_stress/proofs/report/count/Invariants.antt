use Rattle.std.proofs.Common.{◌≡◌, ◌≤◌, ◌<◌, ℕ, take}
use Rattle.std.specs.Prelude.{slice_index}
use Rattle.i3c_base.specs.declared.range.TheConstants.{SLOTS}
use Rattle.i3c_stress.specs.Counting.{accepted_in, refused_in}
use Rattle.i3c_stress.specs.Devices.{raises_at}
use Rattle.i3c_stress.proofs.report.count.Given as goal

abbrev pub invariant-loop-place : goal.invariant-loop-place
invariant-loop-place l =
    (l.accepted ≡ accepted_in (take l.place l.closed.run.entries))
    × (l.refused ≡ refused_in (take l.place l.closed.run.entries))
    × (l.accepted ≤ l.place)
    × (l.refused ≤ l.place)
    × ((slot : ℕ) → slot < SLOTS → (slice_index l.by_slot slot ≡ raises_at slot (take l.place l.closed.run.entries)) × (slice_index l.by_slot slot ≤ l.place))
