-- What a private transfer with an address comes to.
use Rattle.std.specs.Prelude.{◌≡◌, ℕ, ◌+◌, ◌*◌, ◌<◌, ◌⊎◌, Bool, true, false, ⊤, List, All, Some, None, length}
use Rattle.i3c_base.specs.declared.answers.Answer.{Answer}
use Rattle.i3c_base.specs.declared.datum.Direction.{Direction}
use Rattle.i3c_base.specs.declared.device.LegacyTarget.{LegacyTarget}
use Rattle.i3c_base.specs.Cutting.{CutList, Lost}
use Rattle.i3c_base.specs.Frames.{SomeLeftAt, transfer_length}
use Rattle.i3c_base.specs.State.{State, legacy_target_at, population}
use Rattle.i3c_device.specs.Reading.{AreBytesOf, Driving, registers_of}
use Rattle.i3c_xfer.specs.declared.answers.Read.{Read}
use Rattle.i3c_xfer.specs.declared.answers.Write.{Write}

-- the answer that a read is
abbrev pub read_answer : ℕ → Read → Answer
read_answer to Read.Nobody = Answer.NoAnswer to
read_answer to (Read.Legacy bytes) = Answer.Bytes bytes
read_answer to (Read.Ended bytes) = Answer.Bytes bytes
read_answer to (Read.Torn bytes) = Answer.NoEnd

-- the bits of a read: a header, and after its ACK a word for each byte
abbrev pub bits_of_read : Read → ℕ
bits_of_read Read.Nobody = 9
bits_of_read (Read.Legacy bytes) = 153
bits_of_read (Read.Ended bytes) = 9 + 9 * length bytes
bits_of_read (Read.Torn bytes) = 9 + 9 * length bytes

-- the answer that a write is
abbrev pub write_answer : ℕ → Write → Answer
write_answer to Write.Nobody = Answer.NoAnswer to
write_answer to Write.Legacy = Answer.Done
write_answer to Write.Devices = Answer.Done

-- the header of a read is acknowledged
abbrev pub is_read_acknowledged : Read → Bool
is_read_acknowledged Read.Nobody = false
is_read_acknowledged _ = true

-- the header of a write is acknowledged
abbrev pub is_write_acknowledged : Write → Bool
is_write_acknowledged Write.Nobody = false
is_write_acknowledged _ = true

-- a legacy target is at the address
abbrev pub HasLegacy : State → ℕ → Type 0
HasLegacy st a = (target : LegacyTarget) × (legacy_target_at st a ≡ Some target)

-- somebody answers there: a legacy target, or a device that isn't lost
abbrev pub AnyAnswers : State → ℕ → Lost → Type 0
AnyAnswers st a lost = HasLegacy st a ⊎ SomeLeftAt st a lost

-- `count` bytes as devices of this bus at the address drive them, the first bit of all at bit `first` of the frame
abbrev pub AreDrivenBy : Driving → ℕ → State → ℕ → CutList → ℕ → List ℕ → Type 0
AreDrivenBy own count st a cuts first bytes = AreBytesOf own count (population st) a cuts first bytes

-- the first registers so, as many as may be read
abbrev pub AreDriven : State → ℕ → CutList → ℕ → List ℕ → Type 0
AreDriven st a cuts first bytes = AreDrivenBy registers_of (length bytes) st a cuts first bytes × (length bytes ≡ transfer_length st Direction.Read a) × All (λ byte. byte < 256) bytes

-- the bytes read, and their source: a legacy target's registers, or without one the devices at the address
abbrev pub IsReadAs : State → ℕ → CutList → ℕ → Read → Type 0
IsReadAs st a cuts first Read.Nobody = ⊤
IsReadAs st a cuts first (Read.Legacy bytes) = (target : LegacyTarget) × (legacy_target_at st a ≡ Some target) × (bytes ≡ target.registers)
IsReadAs st a cuts first (Read.Ended bytes) = (legacy_target_at st a ≡ None) × AreDriven st a cuts first bytes
IsReadAs st a cuts first (Read.Torn bytes) = (legacy_target_at st a ≡ None) × AreDriven st a cuts first bytes

-- the party that took the bytes of a write: a legacy target, or without one the devices at the address
abbrev pub IsWrittenBy : State → ℕ → Write → Type 0
IsWrittenBy st a Write.Nobody = legacy_target_at st a ≡ None
IsWrittenBy st a Write.Legacy = HasLegacy st a
IsWrittenBy st a Write.Devices = legacy_target_at st a ≡ None
