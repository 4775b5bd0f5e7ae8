-- An address or none in a byte.
use Rattle.std.specs.Prelude.{◌≡◌, ℕ, ◌<◌, ◌==◌, Bool, true, false, Option, Some, None, refl, if◌then◌else◌}
use Rattle.std.proofs.Common.{sym}
use Rattle.std.proofs.lemmas.Bool.{eqb-true}

-- the address that a byte stands for, if it stands for one
abbrev pub address_of : ℕ → Option ℕ
address_of byte = if byte == 128 then None else Some byte

-- the byte for an address or for none
abbrev pub byte_of : Option ℕ → ℕ
byte_of None = 128
byte_of (Some a) = a

-- an optional address has seven bits
abbrev pub HasSevenBits : Option ℕ → Type 0
HasSevenBits None = Unit {0}
HasSevenBits (Some a) = a < 128

-- a byte is that of what it stands for
pub byte_back : (byte : ℕ) → byte_of (address_of byte) ≡ byte
byte_back byte = go (byte == 128) refl
  where
    go : (b : Bool) → (byte == 128) ≡ b → byte_of (if b then None else Some byte) ≡ byte
    go true is = sym (eqb-true byte 128 is)
    go false is = refl
