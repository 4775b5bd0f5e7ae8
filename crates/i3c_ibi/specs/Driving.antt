-- The drivers of an interrupt, and the byte read behind it.
use Rattle.std.specs.Prelude.{◌≡◌, ℕ, ◌-◌, ◌/◌, ◌^◌, ◌<◌, ◌↔◌, Bool, true, false, not, ◌&&◌, ◌==◌, nat_le, if◌then◌else◌, List, Option, Some, None, option_and_then, option_map, is_some, length, IfSome}
use Rattle.std.specs.Int.{bit_at}
use Rattle.std.specs.Int.RustNames.{bit_or}
use Rattle.i3c_base.specs.declared.range.TheConstants.{SLOTS}
use Rattle.i3c_base.specs.declared.requests.Record.{Record}
use Rattle.i3c_base.specs.declared.device.Waiting.{Waiting}
use Rattle.i3c_base.specs.declared.requests.Request.{Request}
use Rattle.i3c_base.specs.declared.requests.Request.TheVariants.{Interrupt}
use Rattle.i3c_base.specs.Cutting.{CutList, cut_of, lost_by}
use Rattle.i3c_base.specs.State.{Device, Population, State, device_in, with_active}
use Rattle.i3c_base.specs.Serve.{AnyDrives, DrivesByte, IsAnd, IsFront, IsFrontOf, IsLowestDriver, drives, drives_in}
use Rattle.i3c_device.specs.Raising.{front_byte}
use Rattle.i3c_device.specs.declared.slot_set.SlotSet.{SlotSet}
use Rattle.i3c_device.specs.Sets.{has}
use Rattle.i3c_device.specs.Walks.{AreDrivers}

-- devices of these drive the request, in these slots
pub record IsDriven (devices : List (Option Device)) (r : Request) (drivers : SlotSet) : Type 0 where
  pub active : ℕ
  pub long : length devices ≡ SLOTS
  pub are : AreDrivers (with_active devices active) r drivers
  pub driven : AnyDrives (with_active devices active) r

-- each front of the drivers of an interrupt at the address `at` has a mandatory byte exactly if `due` holds
abbrev pub HaveBytes : Population → ℕ → Bool → Type 0
HaveBytes all at due = (s : ℕ) (w : Waiting) → drives_in all (Interrupt at) s ≡ true → IsFrontOf (device_in all s) w → is_some w.byte ≡ due

-- the byte in bits 1 to 8 of a frame, as it is driven by a device that is cut at this bit: ones from there on
abbrev pub driven : Option ℕ → ℕ → ℕ
driven None byte = byte
driven (Some bit) byte = if nat_le 9 bit then byte else (if nat_le bit 1 then 255 else bit_or byte (255 / 2 ^ (bit - 1)))

-- the byte at the front of the device in a slot
abbrev pub slot_byte : Option Device → Option ℕ
slot_byte place = option_and_then (λ d. front_byte d.waiting) place

-- the byte that slot s drives beside the one of slot `lowest`, if it is one of these
abbrev pub byte_beside : CutList → SlotSet → ℕ → ℕ → Option Device → Option ℕ
byte_beside cuts drivers lowest s place =
    if not (s == lowest) && has drivers s then option_map (driven (cut_of cuts s)) (slot_byte place) else None

-- `both` is the AND of `own` and the bytes of the slots below n
pub record Together (bytes : ℕ → Option ℕ) (own n both : ℕ) : Type 0 where
  pub bits : (bit : ℕ) → bit < 8 → ((bit_at both bit ≡ 1) ↔ ((bit_at own bit ≡ 1) × ((s v : ℕ) → s < n → bytes s ≡ Some v → bit_at v bit ≡ 1)))
  pub alone : ((s : ℕ) → s < n → bytes s ≡ None) → both ≡ own

-- the byte that is read behind the interrupt at this address: each bit is the AND of what its drivers drive there, which
-- is their own byte's bit, and 1 from the bit of a cut on
pub record IsByteRead (st : State) (cuts : CutList) (at byte : ℕ) : Type 0 where
  pub small : byte < 256
  pub bits : (bit : ℕ) → bit < 8 → ((bit_at byte bit ≡ 1) ↔ ((s own : ℕ) → DrivesByte st (Interrupt at) s own → bit_at (driven (cut_of cuts s) own) bit ≡ 1))

-- what was read of an accepted interrupt at the address `at`: the raise at the lowest driver's front, and of the byte what
-- the drivers drove that end it
pub record IsReading (st : State) (cuts : CutList) (at : ℕ) (r : Record) : Type 0 where
  pub front : Waiting
  pub lowest : IsLowestDriver st (Interrupt at) r.slot
  pub fronted : IsFront st r.slot front
  pub number : r.number ≡ front.number
  pub address : r.at ≡ at
  pub present : is_some r.byte ≡ is_some front.byte
  pub byte : IfSome r.byte (IsByteRead st cuts at)
  pub alone : ((t : ℕ) → drives st (Interrupt at) t ≡ true → t ≡ r.slot) → lost_by cuts 9 r.slot ≡ false → r.byte ≡ front.byte
  pub together : ((t : ℕ) → drives st (Interrupt at) t ≡ true → lost_by cuts 9 t ≡ false) → (v : ℕ) → r.byte ≡ Some v → IsAnd v (DrivesByte st (Interrupt at))
