-- What some slots drive, by the keys of their requests.
use Rattle.std.specs.Prelude.{◌≡◌, ℕ, ◌<◌, true, List, slice_index}
use Rattle.i3c_base.specs.declared.range.TheConstants.{SLOTS}
use Rattle.i3c_base.specs.declared.requests.Request.{Request}
use Rattle.i3c_device.specs.declared.slot_set.SlotSet.{SlotSet}
use Rattle.i3c_device.specs.Sets.{has}
use Rattle.i3c_device.specs.Wishing.{request_of}

-- the request is that of the key of one of these slots
abbrev pub IsDrivenIn : SlotSet → List ℕ → Request → Type 0
IsDrivenIn among keys r = (s : ℕ) × (s < SLOTS) × (has among s ≡ true) × (r ≡ request_of (slice_index keys s))
