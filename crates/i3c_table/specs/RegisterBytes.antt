-- The bytes of what a table stores at an address.
use Rattle.std.specs.Prelude.{ℕ, ◌<◌, List, [], ◌∷◌}
use Rattle.i3c_table.specs.declared.registers.Registers.{Registers}
use Rattle.i3c_base.specs.AddressBytes.{HasSevenBits, byte_of}

-- the BCR, the DCR, the static address, and a byte that is always 0
abbrev pub register_bytes : Registers → List ℕ
register_bytes r = r.bcr.0 ∷ r.dcr.0 ∷ byte_of r.fixed ∷ 0 ∷ []

-- each of them fits a byte
pub record FitBytes (r : Registers) : Type 0 where
  pub bcr : r.bcr.0 < 256
  pub dcr : r.dcr.0 < 256
  pub fixed : HasSevenBits r.fixed
