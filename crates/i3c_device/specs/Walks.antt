-- The effect of a request, a command, a session or a drop-off on the device in a slot. `active` is the active controller's
-- slot.
use Rattle.std.specs.Prelude.{◌≡◌, ℕ, ◌<◌, Bool, ◌&&◌, ◌==◌, List, Option, Some, None, option_map, if◌then◌else◌, slice_index_or}
use Rattle.i3c_base.specs.declared.range.TheConstants.{SLOTS}
use Rattle.i3c_base.specs.declared.requests.Request.{Request}
use Rattle.i3c_base.specs.declared.datum.Direction.{Direction}
use Rattle.i3c_base.specs.Frames.{limited, reaches_at, readdressed, takes_static}
use Rattle.i3c_base.specs.Numbers.{number_of}
use Rattle.i3c_base.specs.Round.{winner}
use Rattle.i3c_base.specs.Serve.{IsFirstIn, drives_in, without}
use Rattle.i3c_base.specs.State.{Device, Population, in_slot}
use Rattle.i3c_word.specs.declared.Word.{Word}
use Rattle.i3c_ccc.specs.declared.codes.Code.{Code}
use Rattle.i3c_device.specs.declared.slot_set.SlotSet.{SlotSet}
use Rattle.i3c_device.specs.Hearing.{heard}
use Rattle.i3c_device.specs.Sets.{has}

-- these are the slots of the devices that a command reaches
abbrev pub AreReached : ℕ → Option ℕ → SlotSet → List (Option Device) → Type 0
AreReached active to slots devices = (s : ℕ) → s < SLOTS → has slots s ≡ in_slot (reaches_at active to s) (slice_index_or devices s None)

-- these are the slots of the devices that take SETDASA at a static address
abbrev pub AreTakers : ℕ → ℕ → SlotSet → List (Option Device) → Type 0
AreTakers active f slots devices = (s : ℕ) → s < SLOTS → has slots s ≡ in_slot (takes_static active f s) (slice_index_or devices s None)

-- the device in a slot is a willing device at this address, other than the active controller
abbrev pub willing_at : ℕ → ℕ → ℕ → Option Device → Bool
willing_at active a s place = in_slot (λ d. reaches_at active (Some a) s d && d.willing) place

-- the device in a slot after a command and its words
abbrev pub heard_at : ℕ → Option ℕ → Code → List Word → ℕ → Option Device → Option Device
heard_at active to code words s place = option_map (λ d. if reaches_at active to s d then heard code words d else d) place

-- these are the slots that drive the request
abbrev pub AreDrivers : Population → Request → SlotSet → Type 0
AreDrivers all r slots = (s : ℕ) → s < SLOTS → has slots s ≡ drives_in all r s

-- the first of the requests that these devices drive, and the slots that drive it
pub record IsFirstDriven (all : Population) (first : Request × SlotSet) : Type 0 where
  pub drivers : AreDrivers all first.0 first.1
  pub comes_first : IsFirstIn all first.0

-- the device in a slot without what an accepted request takes from its driver
abbrev pub taken_from : Request → Option Device → Option Device
taken_from r place = option_map (without r) place

-- these are the slots whose device hears the open session
abbrev pub AreHearers : SlotSet → List (Option Device) → Type 0
AreHearers slots devices = (s : ℕ) → s < SLOTS → has slots s ≡ in_slot (λ d. d.hearing) (slice_index_or devices s None)

-- the device in a slot hears the open session, and this is the number of its identity
abbrev pub hears_as : ℕ → Option Device → Bool
hears_as number place = in_slot (λ d. d.hearing && number_of d.identity == number) place

-- the device in a slot after the devices in these slots took this address
abbrev pub taken_at : SlotSet → ℕ → ℕ → Option Device → Option Device
taken_at winners a s place = if has winners s then option_map (winner a) place else place

-- those in these slots after their maximum length was set
abbrev pub limited_at : SlotSet → Direction → ℕ → ℕ → Option Device → Option Device
limited_at slots way most s place = if has slots s then option_map (limited way most) place else place

-- the device in a slot after the devices in these slots got another dynamic address
abbrev pub readdressed_at : SlotSet → ℕ → ℕ → Option Device → Option Device
readdressed_at slots a s place = if has slots s then option_map (readdressed a) place else place
