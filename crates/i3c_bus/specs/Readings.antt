-- What is read of a slot's device.
use Rattle.std.specs.Prelude.{ℕ, Bool, not, ◌&&◌, ◌==◌, length, Option, Some, None, is_some}
use Rattle.i3c_base.specs.declared.identity.Identity.{Identity}
use Rattle.i3c_base.specs.declared.requests.Request.{Request}
use Rattle.i3c_base.specs.Numbers.{is_capable}
use Rattle.i3c_base.specs.Serve.{IsFirst}
use Rattle.i3c_base.specs.State.{Device, State, device_at, in_slot, population}
use Rattle.i3c_device.specs.declared.slot_set.SlotSet.{SlotSet}
use Rattle.i3c_device.specs.Walks.{AreDrivers}

-- the address of the device in a slot, if it has one
abbrev pub address_of : Option Device → Option ℕ
address_of None = None
address_of (Some d) = d.address

-- the identity of the device in a slot
abbrev pub identity_of : Option Device → Option Identity
identity_of None = None
identity_of (Some d) = Some d.identity

-- how many of its interrupts wait
abbrev pub waiting_of : Option Device → ℕ
waiting_of None = 0
waiting_of (Some d) = length d.waiting

-- the device in slot s keeps a copy of the list: the list is current, and the device isn't the active controller, has an
-- address and can be a controller
abbrev pub keeps_copy : State → ℕ → Bool
keeps_copy st s = st.listed && (not (s == st.active) && in_slot (λ d. is_some d.address && is_capable d.identity.bcr) (device_at st s))

-- these slots' devices drive this request
abbrev pub AreAskers : State → Request → SlotSet → Type 0
AreAskers st r slots = AreDrivers (population st) r slots

-- this is the first request, and these slots' devices drive it
abbrev pub IsAsked : State → Request × SlotSet → Type 0
IsAsked st asked = IsFirst st asked.0 × AreAskers st asked.0 asked.1
