-- The parts of a device that have a byte each.
use Rattle.std.specs.Prelude.{◌≡◌, ℕ, ◌<◌, ◌==◌, Bool, List, [], ◌∷◌, if◌then◌else◌}
use Rattle.i3c_base.specs.AddressBytes.{HasSevenBits, byte_of}
use Rattle.i3c_base.specs.State.{Device}

-- whether a byte is 1
abbrev pub is_one : ℕ → Bool
is_one byte = byte == 1

-- 1 for true, and 0 for false
abbrev pub bit_of : Bool → ℕ
bit_of is_so = if is_so then 1 else 0

-- a device's addresses, its willingness, its wishes, whether it hears the open session, and its lengths
abbrev pub field_bytes : Device → List ℕ
field_bytes d = byte_of d.fixed ∷ byte_of d.address ∷ bit_of d.willing ∷ bit_of d.join_wish ∷ bit_of d.role_wish ∷ bit_of d.hearing ∷ d.most_written ∷ d.most_read ∷ []

-- each of them fits a byte
pub record FitBytes (d : Device) : Type 0 where
  pub fixed : HasSevenBits d.fixed
  pub address : HasSevenBits d.address
  pub written : d.most_written < 256
  pub read : d.most_read < 256

-- two devices have the same of these
abbrev pub HaveSameByteFields : Device → Device → Type 0
HaveSameByteFields d e =
    (d.fixed ≡ e.fixed) × (d.address ≡ e.address) × (d.willing ≡ e.willing) × (d.join_wish ≡ e.join_wish) × (d.role_wish ≡ e.role_wish) × (d.hearing ≡ e.hearing)
    × (d.most_written ≡ e.most_written) × (d.most_read ≡ e.most_read)
