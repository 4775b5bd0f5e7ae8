-- The first request of a frame, and what serving it leaves.
use Rattle.std.specs.Prelude.{◌≡◌, ℕ, suc, ◌+◌, ◌*◌, ◌<◌, ◌≤◌, ◌↔◌, Bool, true, false, not, ◌&&◌, ◌==◌, List, [], ◌∷◌, ◌++◌, length, Option, Some, None, if◌then◌else◌, is_some, is_none, MatchOption}
use Rattle.std.specs.Int.{bit_at}
use Rattle.i3c_base.specs.declared.requests.Fixed.{Fixed}
use Rattle.i3c_base.specs.declared.requests.Record.{Record}
use Rattle.i3c_base.specs.declared.requests.Request.{Request}
use Rattle.i3c_base.specs.declared.requests.Request.TheVariants.{Join, Role, Interrupt}
use Rattle.i3c_base.specs.declared.requests.Served.{Served}
use Rattle.i3c_base.specs.declared.requests.Served.TheVariants.{Quiet, Recorded, Refused, Torn, Joining, WantsRole}
use Rattle.i3c_base.specs.declared.requests.Verdict.{Verdict}
use Rattle.i3c_base.specs.declared.requests.Verdict.TheVariants.{Accept, Refuse}
use Rattle.i3c_base.specs.declared.device.Waiting.{Waiting}
use Rattle.i3c_base.specs.Numbers.{has_byte}
use Rattle.i3c_base.specs.State.{Device, Entry, Population, State, device_at, device_in, each_in, entry_at, has_address, in_slot, population}
use Rattle.i3c_base.specs.Places.{changed}
use Rattle.i3c_base.specs.Cutting.{CutList, Lost, lost_by}

-- what is in a slot after a frame that loses these devices
abbrev pub left_at : Lost → ℕ → Option Device → Option Device
left_at lost s place = if lost s then None else place

-- the bus without its lost devices
abbrev pub emptied : Lost → State → State
emptied lost st = record st { devices = changed (left_at lost) st.devices }

-- nothing waits
abbrev pub is_empty : List Waiting → Bool
is_empty [] = true
is_empty (w ∷ ws) = false

-- the device drives this request: a join without an address, otherwise the role request before the interrupt, and its choice
-- only while that kind is enabled
abbrev pub asks : Device → Request → Bool
asks d Join = is_none d.address && (d.join_wish && d.kinds.join)
asks d (Role a) = has_address a d && (d.role_wish && d.kinds.role)
asks d (Interrupt a) = has_address a d && (not d.role_wish && (not (is_empty d.waiting) && d.kinds.interrupt))

-- the slot drives this request among these devices; the active controller drives none
abbrev pub drives_in : Population → Request → ℕ → Bool
drives_in all r s = not (s == all.active) && in_slot (λ d. asks d r) (device_in all s)

-- the slot drives this request
abbrev pub drives : State → Request → ℕ → Bool
drives st r s = drives_in (population st) r s

-- the order of requests: joins, then by address, then the role request before the interrupt
abbrev pub rank : Request → ℕ
rank Join = 0
rank (Role a) = 1 + 2 * a
rank (Interrupt a) = 2 + 2 * a

-- one of these devices drives r
abbrev pub AnyDrives : Population → Request → Type 0
AnyDrives all r = (s : ℕ) × (drives_in all r s ≡ true)

-- one of these devices that isn't lost drives r
abbrev pub SomeDrives : Population → Request → Lost → Type 0
SomeDrives all r lost = (s : ℕ) × (drives_in all r s ≡ true) × (lost s ≡ false)

-- some device drives r, and none drives one that comes before it
pub record IsFirstIn (all : Population) (r : Request) : Type 0 where
  pub driven : AnyDrives all r
  pub first : (s : ℕ) (q : Request) → drives_in all q s ≡ true → rank r ≤ rank q

-- r comes first on this bus
abbrev pub IsFirst : State → Request → Type 0
IsFirst st r = IsFirstIn (population st) r

-- none of these devices drives a request
abbrev pub NobodyDrives : Population → Type 0
NobodyDrives all = (s : ℕ) (r : Request) → drives_in all r s ≡ false

-- nobody drives a request
abbrev pub NoneAsks : State → Type 0
NoneAsks st = NobodyDrives (population st)

-- the request that wins a frame's first header, or none if nobody drives one
abbrev pub IsFirstRequest : State → Option Request → Type 0
IsFirstRequest st first = MatchOption first (NoneAsks st) (λ r. IsFirst st r)

-- the lowest slot of those that drive r
abbrev pub IsLowestDriver : State → Request → ℕ → Type 0
IsLowestDriver st r s = (drives st r s ≡ true) × ((t : ℕ) → t < s → drives st r t ≡ false)

-- the device in a slot has w at the front of its waiting interrupts
abbrev pub IsFrontOf : Option Device → Waiting → Type 0
IsFrontOf place w = (d : Device) × (rest : List Waiting) × (place ≡ Some d) × (d.waiting ≡ w ∷ rest)

-- w waits at the front in slot s
abbrev pub IsFront : State → ℕ → Waiting → Type 0
IsFront st s w = IsFrontOf (device_at st s) w

-- the interrupts at this address have a mandatory byte
abbrev pub byte_due : Option Entry → Bool
byte_due None = false
byte_due (Some entry) = has_byte entry.bcr

-- the policy's verdict; a request at an address without an entry is refused unasked
abbrev pub verdict : State → Fixed → Request → Verdict
verdict st policy Join = policy.join
verdict st policy (Role a) = if is_some (entry_at st a) then policy.role else Refuse
verdict st policy (Interrupt a) = if is_some (entry_at st a) then policy.interrupt else Refuse

-- the policy of the frames that refuse each request
abbrev pub refuse_all : Fixed
refuse_all = record { join = Refuse; role = Refuse; interrupt = Refuse }

-- the policy with the verdict that was given on what was served, and with refusals otherwise
abbrev pub given_for : Served → Fixed
given_for Served.Joining = record refuse_all { join = Accept }
given_for (Served.WantsRole a) = record refuse_all { role = Accept }
given_for (Served.Recorded place) = record refuse_all { interrupt = Accept }
given_for Served.Torn = record refuse_all { interrupt = Accept }
given_for Served.Quiet = refuse_all
given_for Served.Refused = refuse_all

-- byte is the AND of the bytes that these slots drive
abbrev pub IsAnd : ℕ → (ℕ → ℕ → Type 0) → Type 0
IsAnd byte Drives = (byte < 256) × ((bit : ℕ) → bit < 8 → ((bit_at byte bit ≡ 1) ↔ ((s v : ℕ) → Drives s v → bit_at v bit ≡ 1)))

-- slot s drives the request r, and v is the byte of its front
abbrev pub DrivesByte : State → Request → ℕ → ℕ → Type 0
DrivesByte st r s v = (drives st r s ≡ true) × ((w : Waiting) × IsFront st s w × (w.byte ≡ Some v))

-- what is read behind an accepted interrupt, where slot s with the front w is the lowest driver:
-- of one driver its byte; of several the AND of theirs, which is free where some are lost
pub record IsRead (st : State) (lost : Lost) (r : Request) (s : ℕ) (w : Waiting) (byte : Option ℕ) : Type 0 where
  pub alone : ((t : ℕ) → drives st r t ≡ true → t ≡ s) → byte ≡ w.byte
  pub together : ((t : ℕ) → drives st r t ≡ true → lost t ≡ false) → (v : ℕ) → byte ≡ Some v → IsAnd v (DrivesByte st r)
  pub present : is_some byte ≡ is_some w.byte

-- the drivers of r among these changed by f
abbrev pub each_driver_in : Population → Request → (Device → Device) → List (Option Device)
each_driver_in all r f = each_in (λ s d. if drives_in all r s then f d else d) all.devices

-- the drivers of r changed by f
abbrev pub each_driver : Request → (Device → Device) → State → State
each_driver r f st = record st { devices = each_driver_in (population st) r f }

-- a list without its first element
abbrev pub tail : List Waiting → List Waiting
tail [] = []
tail (w ∷ ws) = ws

-- a device without its join wish
abbrev pub without_join : Device → Device
without_join d = record d { join_wish = false }

-- a device without its role wish
abbrev pub without_role : Device → Device
without_role d = record d { role_wish = false }

-- a device without the front of its waiting list
abbrev pub without_front : Device → Device
without_front d = record d { waiting = tail d.waiting }

-- what an accepted request takes from a device that drives it
abbrev pub without : Request → Device → Device
without Join d = without_join d
without (Role a) d = without_role d
without (Interrupt a) d = without_front d

-- one more record is at the end of the log
abbrev pub recorded : Record → State → State
recorded r st = record st { records = st.records ++ r ∷ [] }

-- an accepted interrupt at the address `at`: the raise of its lowest driver is recorded
pub record IsRecorded (st : State) (policy : Fixed) (lost : Lost) (place : ℕ) (new : State) : Type 0 where
  pub at : ℕ
  pub slot : ℕ
  pub front : Waiting
  pub byte : Option ℕ
  pub first : IsFirst st (Interrupt at)
  pub accepted : verdict st policy (Interrupt at) ≡ Accept
  pub lowest : IsLowestDriver st (Interrupt at) slot
  pub fronted : IsFront st slot front
  pub read : IsRead st lost (Interrupt at) slot front byte
  pub placed : place ≡ suc (length st.records)
  pub left : new ≡ recorded (record { slot = slot; number = front.number; at = at; byte = byte }) (each_driver (Interrupt at) without_front st)

-- an accepted interrupt whose mandatory byte was torn: each driver is lost
pub record IsTorn (st : State) (policy : Fixed) (lost : Lost) (new : State) : Type 0 where
  pub at : ℕ
  pub first : IsFirst st (Interrupt at)
  pub accepted : verdict st policy (Interrupt at) ≡ Accept
  pub due : byte_due (entry_at st at) ≡ true
  pub gone : (s : ℕ) → drives st (Interrupt at) s ≡ true → lost s ≡ true
  pub left : new ≡ each_driver (Interrupt at) without_front st

-- Serving the first request, with the devices that the frame loses: when each answer may come, and what it leaves.
abbrev pub Serves : State → Fixed → Lost → Served → State → Type 0
Serves st policy lost Quiet new = NoneAsks st × (new ≡ st)
Serves st policy lost Refused new = ((r : Request) × IsFirst st r × (verdict st policy r ≡ Refuse)) × (new ≡ st)
Serves st policy lost Joining new =
    IsFirst st Join × (verdict st policy Join ≡ Accept) × (new ≡ each_driver Join without_join st)
Serves st policy lost (WantsRole a) new =
    IsFirst st (Role a) × (verdict st policy (Role a) ≡ Accept) × (new ≡ each_driver (Role a) without_role st)
Serves st policy lost (Recorded place) new = IsRecorded st policy lost place new
Serves st policy lost Torn new = IsTorn st policy lost new

-- the bits of the mandatory word, between the header and the rest of the frame
abbrev pub IsWordBits : State → Served → ℕ → Type 0
IsWordBits st (Recorded place) bits = (a : ℕ) × IsFirst st (Interrupt a) × (bits ≡ (if byte_due (entry_at st a) then 9 else 0))
IsWordBits st Torn bits = bits ≡ 9
IsWordBits st Quiet bits = bits ≡ 0
IsWordBits st Refused bits = bits ≡ 0
IsWordBits st Joining bits = bits ≡ 0
IsWordBits st (WantsRole a) bits = bits ≡ 0

-- the bits of the header 7E/W that goes on with a frame after a request
abbrev pub header_bits : Served → ℕ
header_bits Quiet = 0
header_bits (Recorded place) = 9
header_bits Refused = 9
header_bits Torn = 9
header_bits Joining = 9
header_bits (WantsRole a) = 9

-- A frame that sends `rest` bits after its first header and the mandatory word: it serves, does its own part,
-- and empties the slots that were cut by its last bit. `Own lost mid done` says what its own part may do.
pub record Frame (old : State) (policy : Fixed) (cuts : CutList) (served : Served) (rest : ℕ) (Own : Lost → State → State → Type 0) (new : State) : Type 0 where
  pub word : ℕ
  pub mid : State
  pub done : State
  pub sent : IsWordBits old served word
  pub serves : Serves old policy (lost_by cuts (word + rest)) served mid
  pub own : Own (lost_by cuts (word + rest)) mid done
  pub left : new ≡ emptied (lost_by cuts (word + rest)) done
