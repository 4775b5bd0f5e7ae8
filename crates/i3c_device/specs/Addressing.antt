-- The dynamic address of a device.
use Rattle.std.specs.Prelude.{ℕ, ◌≤◌, Option, Some, None}
use Rattle.i3c_base.specs.State.{Device}

-- no dynamic address is below 08
abbrev pub IsDynamic : Option ℕ → Type 0
IsDynamic None = Unit {0}
IsDynamic (Some a) = 0x08 ≤ a

-- the device in a slot, if any, has no address below 8
abbrev pub IsDynamicIn : Option Device → Type 0
IsDynamicIn None = Unit {0}
IsDynamicIn (Some d) = IsDynamic d.address
