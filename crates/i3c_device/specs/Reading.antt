-- What the lines give while devices at one address drive bytes: their registers, or a datum. Most significant bits come first.
use Rattle.std.specs.Prelude.{◌≡◌, ℕ, ◌+◌, ◌-◌, ◌*◌, ◌<◌, ◌↔◌, Bool, true, false, ◌&&◌, not, ◌==◌, if◌then◌else◌, List, length, Option, None, slice_index, slice_index_or}
use Rattle.std.specs.Int.{bit_at}
use Rattle.i3c_base.specs.declared.range.TheConstants.{SLOTS}
use Rattle.i3c_base.specs.declared.device.TheConstants.{REGISTERS}
use Rattle.i3c_base.specs.Cutting.{CutList, Lost, is_by, lost_by}
use Rattle.i3c_base.specs.State.{Device, IsTargetIn, Population, in_slot}
use Rattle.i3c_base.specs.declared.datum.Datum.{Datum}
use Rattle.i3c_base.specs.Frames.{told_bytes}
use Rattle.i3c_device.specs.declared.slot_set.SlotSet.{SlotSet}
use Rattle.i3c_device.specs.Sets.{has}

-- a byte as it is driven from bit `at` of a frame on, by a device that is cut at this bit of it: ones from there on
abbrev pub IsDrivenFrom : ℕ → Option ℕ → ℕ → ℕ → Type 0
IsDrivenFrom own cut at byte = (j : ℕ) → j < 8 → bit_at byte (7 - j) ≡ (if is_by (at + j) cut then 1 else bit_at own (7 - j))

-- the bytes that each device drives
abbrev pub Driving : Type 0
Driving = Device → List ℕ

-- a device drives its registers when it is read
abbrev pub registers_of : Driving
registers_of d = d.registers

-- the device in a slot has 0 in this bit of byte k
abbrev pub has_zero : Driving → ℕ → ℕ → Option Device → Bool
has_zero own k bit place = in_slot (λ d. bit_at (slice_index (own d) k) bit == 0) place

-- byte k as the device in a slot drives it from bit `at` on: until it is cut it pulls the bits low that are 0
abbrev pub IsByteFrom : Driving → Option Device → ℕ → Option ℕ → ℕ → ℕ → Type 0
IsByteFrom own place k cut at byte = (j : ℕ) → j < 8 → bit_at byte (7 - j) ≡ (if not (is_by (at + j) cut) && has_zero own k (7 - j) place then 0 else 1)

-- one of these slots isn't lost, and has 0 in this bit of byte k
abbrev pub SomeZero : Driving → SlotSet → Lost → ℕ → ℕ → List (Option Device) → Type 0
SomeZero own among lost k bit devices = (s : ℕ) × (s < SLOTS) × (has among s ≡ true) × (lost s ≡ false) × (has_zero own k bit (slice_index_or devices s None) ≡ true)

-- byte k as the lines give it from bit `at` on: a bit is 0 exactly where one of these slots pulls it low
abbrev pub IsByteOf : Driving → SlotSet → ℕ → CutList → ℕ → List (Option Device) → ℕ → Type 0
IsByteOf own among k cuts at devices byte = (j : ℕ) → j < 8 → (bit_at byte (7 - j) ≡ 0) ↔ SomeZero own among (lost_by cuts (at + j)) k (7 - j) devices

-- a device of these at the address that isn't lost has 0 in this bit of byte k: it pulls the line low
abbrev pub PullsLow : Driving → Population → ℕ → Lost → ℕ → ℕ → Type 0
PullsLow own all a lost k bit = (s : ℕ) × (d : Device) × IsTargetIn all a s d × (lost s ≡ false) × (bit_at (slice_index (own d) k) bit ≡ 0)

-- `count` bytes as they are read from an address, the first bit of all at bit `first` of the frame: eight bits of each and a
-- T. A bit is 0 exactly if a device there pulls the line low
abbrev pub AreBytesOf : Driving → ℕ → Population → ℕ → CutList → ℕ → List ℕ → Type 0
AreBytesOf own count all a cuts first bytes = (k j : ℕ) → k < count → j < 8 → (bit_at (slice_index bytes k) (7 - j) ≡ 0) ↔ PullsLow own all a (lost_by cuts (first + 9 * k + j)) k (7 - j)

-- all registers as they are read
abbrev pub AreReadOf : Population → ℕ → CutList → ℕ → List ℕ → Type 0
AreReadOf all a cuts first bytes = AreBytesOf registers_of REGISTERS all a cuts first bytes

-- a datum as it is told
abbrev pub AreToldOf : Datum → Population → ℕ → CutList → ℕ → List ℕ → Type 0
AreToldOf what all a cuts first bytes = AreBytesOf (told_bytes what) (length bytes) all a cuts first bytes
