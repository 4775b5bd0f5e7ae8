-- A byte and the address that it stands for.
use Rattle.std.proofs.Common.{◌≡◌, ℕ, ◌<◌, Option, Some, None, ap, arith, refl}
use Rattle.i3c_base.specs.AddressBytes.{HasSevenBits, byte_of}

pub byte_small : (a : Option ℕ) → HasSevenBits a → byte_of a < 256
byte_small None h = omega arith
byte_small (Some a) h = omega (arith, h)

-- one byte stands for one address
pub byte_own : (a b : Option ℕ) → HasSevenBits a → HasSevenBits b → byte_of a ≡ byte_of b → a ≡ b
byte_own None None h k e = refl
byte_own None (Some b) h k e = absurd (omega (arith, k, e))
byte_own (Some a) None h k e = absurd (omega (arith, h, e))
byte_own (Some a) (Some b) h k e = ap Some e
