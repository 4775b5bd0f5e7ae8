use Rattle.std.proofs.Common.{◌<◌, ◌+◌, ℕ}
use Rattle.i3c_stress.specs.Devices.{HasEntered}
use Rattle.i3c_stress.proofs.devices.have_entered.Given as goal

abbrev pub invariant-loop-index : goal.invariant-loop-index
invariant-loop-index l = (slot : ℕ) → 0 < slot → slot < l.index + 1 → HasEntered slot l.run.entries
