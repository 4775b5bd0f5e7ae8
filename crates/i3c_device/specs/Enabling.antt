-- Which kinds of events are enabled in which slots, and devices as they are seen with them.
use Rattle.std.specs.Prelude.{ℕ, List, Option, option_map}
use Rattle.i3c_base.specs.Numbers.{KindSet}
use Rattle.i3c_base.specs.Places.{changed}
use Rattle.i3c_base.specs.State.{Device}
use Rattle.i3c_device.specs.declared.enabled.Enabled.{Enabled}
use Rattle.i3c_device.specs.declared.own_kinds.OwnKinds.{OwnKinds}
use Rattle.i3c_device.specs.Sets.{has}

-- a device for which these kinds are enabled
abbrev pub under : KindSet → Device → Device
under kinds d = record d { kinds = kinds }

-- the kinds of one device
abbrev pub kinds_of : OwnKinds → KindSet
kinds_of kinds = record { interrupt = kinds.interrupt; role = kinds.role; join = kinds.join }

-- the kinds that are enabled in a slot
abbrev pub kinds_in : Enabled → ℕ → KindSet
kinds_in enabled s = record { interrupt = has enabled.interrupts s; role = has enabled.roles s; join = has enabled.joins s }

-- the device in a slot, with its kinds
abbrev pub seen_in : Enabled → ℕ → Option Device → Option Device
seen_in enabled s place = option_map (under (kinds_in enabled s)) place

-- devices in their slots, each with its kinds
abbrev pub seen : Enabled → List (Option Device) → List (Option Device)
seen enabled places = changed (seen_in enabled) places
