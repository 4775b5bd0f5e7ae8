-- The devices that a command means, its answers, the contenders of a round, and the device that takes the role.
use Rattle.std.specs.Prelude.{◌≡◌, ℕ, ◌+◌, ◌*◌, Bool, true, false, ◌⊎◌, List, [], ◌∷◌, Option, Some, None, option_map, if◌then◌else◌}
use Rattle.i3c_base.specs.declared.answers.Answer.{Answer}
use Rattle.i3c_base.specs.declared.datum.Datum.{Datum}
use Rattle.i3c_base.specs.declared.datum.Direction.{Direction}
use Rattle.i3c_base.specs.declared.identity.Identity.{Identity}
use Rattle.i3c_base.specs.declared.device.LegacyTarget.{LegacyTarget}
use Rattle.i3c_base.specs.Cutting.{CutList, Lost, lost_by}
use Rattle.i3c_base.specs.Frames.{AllLostAt, AllUnaddressedLostAt, AnyAt, AnyUnaddressedAt, DrivesRegister, DrivesTold, IsReadOf, IsToldAt, IsWillingAt, NobodyLeftAt, least_length_from, reaches, readdressed, takes_static, told_bytes, transfer_length, AreWillingLost, IsLowestWilling, written_at}
use Rattle.i3c_base.specs.Numbers.{IsBelow}
use Rattle.i3c_base.specs.Places.{changed}
use Rattle.i3c_base.specs.Round.{IsHearer, winner}
use Rattle.i3c_base.specs.State.{Device, State, IsTargetAt, device_at, has_address, legacy_target_at, unkept, population}
use Rattle.i3c_model.specs.declared.plain.Choice.{Choice}
use Rattle.i3c_model.specs.declared.plain.Choice.TheVariants.{Silent}

-- a command means the device: it has the address, if one is named
abbrev pub is_meant : Option ℕ → Device → Bool
is_meant None d = true
is_meant (Some a) d = has_address a d

-- the answers that ENEC and DISEC may have; `lost` are the devices lost by the end of a header to one address
abbrev pub MayAnswer : State → Option ℕ → Lost → Answer → Type 0
MayAnswer st None lost answer = answer ≡ Answer.Done
MayAnswer st (Some a) lost answer = ((answer ≡ Answer.Done) × AnyAt st a) ⊎ ((answer ≡ Answer.NoAnswer a) × AllLostAt st a lost)

-- the answers that SETDASA may have; `lost` are the devices lost by the end of its header to the static address
abbrev pub MayTake : State → ℕ → Lost → Answer → Type 0
MayTake st f lost answer = ((answer ≡ Answer.Done) × AnyUnaddressedAt st f) ⊎ ((answer ≡ Answer.NoAnswer f) × AllUnaddressedLostAt st f lost)

-- a device after SETDASA, where the slot `active` is the active controller's
abbrev pub settling : ℕ → ℕ → ℕ → ℕ → Device → Device
settling active f new s d = if takes_static active f s d then winner new d else d

-- a device after SETNEWDA
abbrev pub moving : State → ℕ → ℕ → ℕ → Device → Device
moving st old new s d = if reaches st (Some old) s d then readdressed new d else d

-- no address is kept for an identity
abbrev pub forgotten : State → State
forgotten st = record st { given = changed (λ a place. option_map unkept place) st.given }

-- the answers that a transfer may have which isn't refused: a write, whose header ends with `lost`
abbrev pub MayWrite : State → ℕ → Lost → Answer → Type 0
MayWrite st a lost answer =
    ((answer ≡ Answer.Done) × (((target : LegacyTarget) × (legacy_target_at st a ≡ Some target)) ⊎ AnyAt st a)) ⊎ ((answer ≡ Answer.NoAnswer a) × NobodyLeftAt st a lost)

-- the last bit of a read whose header was acknowledged, counted as those of its own part
abbrev pub read_end : State → ℕ → ℕ
read_end st a = 9 + 9 * transfer_length st Direction.Read a

-- the answers that a read may have, whose own part begins behind a bit
abbrev pub MayRead : State → ℕ → CutList → ℕ → Answer → Type 0
MayRead st a cuts begin (Answer.Bytes bytes) = IsReadOf st a (lost_by cuts (begin + read_end st a)) bytes
MayRead st a cuts begin Answer.NoEnd = NobodyLeftAt st a (lost_by cuts (begin + read_end st a)) × AnyAt st a
MayRead st a cuts begin (Answer.NoAnswer b) = (b ≡ a) × NobodyLeftAt st a (lost_by cuts (begin + 9))
MayRead st a cuts begin Answer.Done = ⊥

-- slot s has the address, isn't lost, and has v in register k
abbrev pub DrivesLeft : State → ℕ → Lost → ℕ → ℕ → ℕ → Type 0
DrivesLeft st a lost k s v = DrivesRegister st a k s v × (lost s ≡ false)

-- these are the registers of the device in slot s, which has the address and isn't lost
pub record IsGivenBy (st : State) (a : ℕ) (lost : Lost) (s : ℕ) (registers : List ℕ) : Type 0 where
  pub device : Device
  pub there : IsTargetAt st a s device
  pub left : lost s ≡ false
  pub value : registers ≡ device.registers

-- slot s has no device that is left and takes the role
abbrev pub NoneGives : State → ℕ → Lost → ℕ → Type 0
NoneGives st a lost s = (d : Device) → IsTargetAt st a s d → lost s ≡ false → ⊥

-- slot s has the address, isn't lost, and its device has v as byte k of what it tells of a datum
abbrev pub DrivesToldLeft : State → Datum → ℕ → Lost → ℕ → ℕ → ℕ → Type 0
DrivesToldLeft st what a lost k s v = DrivesTold st what a k s v × (lost s ≡ false)

-- these bytes are what the device in slot s, which has the address and isn't lost, tells of a datum
pub record IsToldBy (st : State) (what : Datum) (a : ℕ) (lost : Lost) (s : ℕ) (bytes : List ℕ) : Type 0 where
  pub device : Device
  pub there : IsTargetAt st a s device
  pub left : lost s ≡ false
  pub value : bytes ≡ told_bytes what device

-- the answer of a code that asks for a datum, after that of its header: that of the header where it isn't acknowledged
abbrev pub Tells : State → Datum → ℕ → Lost → Answer → Answer → Type 0
Tells st what a lost Answer.Done (Answer.Bytes bytes) = IsToldAt st what a lost bytes
Tells st what a lost Answer.Done Answer.NoEnd = AllLostAt st a lost
Tells st what a lost Answer.Done _ = ⊥
Tells st what a lost header answer = answer ≡ header

-- the maximum length of the device in slot s, if it isn't the active controller and has the address; otherwise the greatest
-- one
abbrev pub length_in_slot : State → Direction → ℕ → ℕ → ℕ
length_in_slot st way a s = least_length_from st.active way a s (device_at st s ∷ [])

-- a device after a write to the address
abbrev pub overwriting : State → ℕ → List ℕ → ℕ → Device → Device
overwriting st a bytes s d = written_at st.active a bytes s d

-- each willing device at the address is lost (also where there is none)
abbrev pub NoHeir : State → ℕ → Lost → Type 0
NoHeir st a lost = AreWillingLost (population st) a lost

-- s is the lowest slot with a willing device at the address that isn't lost
abbrev pub IsHeir : State → ℕ → Lost → ℕ → Type 0
IsHeir st a lost s = IsLowestWilling (population st) a lost s

-- the bits of a handover that nobody takes; `lost` are the devices lost by the end of its header to the address
abbrev pub MayDecline : State → ℕ → Lost → Choice → ℕ → Type 0
MayDecline st a lost choice bits =
    ((bits ≡ 18) × NoHeir st a lost × (¬ (choice ≡ Silent) → (s : ℕ) → ¬ IsWillingAt st a s))
    ⊎ ((bits ≡ 27) × ((s : ℕ) × IsWillingAt st a s) × (choice ≡ Silent → ¬ NoHeir st a lost))

-- no hearer is lost, or none is left
abbrev pub NoHearer : State → Lost → Bool → Type 0
NoHearer st lost which = (s : ℕ) (d : Device) → IsHearer st s d → lost s ≡ which → ⊥

-- i is the least identity of the hearers that are lost, or of those that are left
abbrev pub IsLeastHearer : State → Lost → Bool → Identity → Type 0
IsLeastHearer st lost which i =
    ((s : ℕ) × (d : Device) × IsHearer st s d × (lost s ≡ which) × (d.identity ≡ i))
    × ((s : ℕ) (d : Device) → IsHearer st s d → lost s ≡ which → ¬ IsBelow d.identity i)
