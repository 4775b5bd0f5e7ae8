-- The slots of a bus, from the lowest on.
use Rattle.std.specs.Prelude.{ℕ, ◌<◌}
use Rattle.i3c_base.specs.State.{State, IsPresent}

-- each slot below this one holds a device
abbrev pub AllPresentBelow : State → ℕ → Type 0
AllPresentBelow st slot = (s : ℕ) → s < slot → IsPresent st s
