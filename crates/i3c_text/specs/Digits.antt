-- Hex digits as they are read.
use Rattle.std.specs.Prelude.{ℕ, ◌⊎◌}
use Rattle.std.specs.Int.{IsInRange}

-- `0` to `9` or `A` to `F`
abbrev pub IsHexDigit : ℕ → Type 0
IsHexDigit byte = IsInRange 48 57 byte ⊎ IsInRange 65 70 byte
