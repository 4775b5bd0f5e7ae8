-- Identities, what the bits of a BCR say, and sets of event kinds.
use Rattle.std.specs.Prelude.{◌≡◌, ℕ, ◌+◌, ◌*◌, ◌<◌, ◌^◌, ◌/◌, ◌%◌, Bool, true, false, not, ◌&&◌, ◌==◌, ◌⊎◌}
use Rattle.i3c_base.specs.declared.identity.Bcr.{Bcr}
use Rattle.i3c_base.specs.declared.identity.Identity.{Identity}
use Rattle.i3c_base.specs.declared.kinds.Kinds.{Kinds}

-- i wins a contest against j: the smaller PID, then BCR, then DCR
abbrev pub IsBelow : Identity → Identity → Type 0
IsBelow i j = (i.pid < j.pid) ⊎ ((i.pid ≡ j.pid) × (i.bcr.0 < j.bcr.0)) ⊎ ((i.pid ≡ j.pid) × (i.bcr.0 ≡ j.bcr.0) × (i.dcr.0 < j.dcr.0))

-- a PID of 48 bits, and a BCR and a DCR of 8
abbrev pub IsInRange : Identity → Type 0
IsInRange i = (i.pid < 2 ^ 48) × (i.bcr.0 < 2 ^ 8) × (i.dcr.0 < 2 ^ 8)

-- the identity as one number: the PID, then the BCR, then the DCR
abbrev pub number_of : Identity → ℕ
number_of i = i.pid * 65536 + i.bcr.0 * 256 + i.dcr.0

-- a test of equal identities
abbrev pub same_identity : Identity → Identity → Bool
same_identity i j = (i.pid == j.pid) && ((i.bcr.0 == j.bcr.0) && (i.dcr.0 == j.dcr.0))

-- a test of equal truth values
abbrev pub same_bool : Bool → Bool → Bool
same_bool true b = b
same_bool false b = not b

-- bits 7:6 of a BCR are 01: a controller
abbrev pub is_capable : Bcr → Bool
is_capable bcr = bcr.0 / 64 == 1

-- bit 1: it can interrupt
abbrev pub can_interrupt : Bcr → Bool
can_interrupt bcr = (bcr.0 / 2) % 2 == 1

-- bit 2: its interrupts have a mandatory byte
abbrev pub has_byte : Bcr → Bool
has_byte bcr = (bcr.0 / 4) % 2 == 1

-- a set of event kinds
pub record KindSet : Type 0 where
  pub interrupt : Bool
  pub role : Bool
  pub join : Bool

-- the set that flags stand for: bit 0 interrupts, bit 1 role requests, bit 3 Hot-Join; other bits are ignored
abbrev pub kind_set : Kinds → KindSet
kind_set kinds = record { interrupt = kinds.0 % 2 == 1; role = (kinds.0 / 2) % 2 == 1; join = (kinds.0 / 8) % 2 == 1 }
