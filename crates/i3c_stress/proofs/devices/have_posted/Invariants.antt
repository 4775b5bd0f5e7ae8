use Rattle.std.proofs.Common.{◌<◌, ℕ}
use Rattle.std.specs.Prelude.{slice_index}
use Rattle.i3c_stress.specs.Devices.{HasPosted}
use Rattle.i3c_stress.proofs.devices.have_posted.Given as goal

abbrev pub invariant-loop-slot : goal.invariant-loop-slot
invariant-loop-slot l = (k : ℕ) → k < l.slot → HasPosted l.devices l.posts k (slice_index l.by_slot k)
