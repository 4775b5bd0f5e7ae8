-- The forms of tokens.
use Rattle.std.specs.Prelude.{◌≡◌, ℕ, ◌<◌, ◌≤◌, ◌⊎◌, ⊤, List, [], ◌∷◌, length, All}
use Rattle.std.specs.Int.{IsInRange}
use Rattle.std.specs.Str.Parse.{digits_value}
use Rattle.i3c_text.specs.Digits.{IsHexDigit}

-- a decimal digit, `0` to `9`
abbrev pub IsDecimalDigit : ℕ → Type 0
IsDecimalDigit byte = IsInRange 48 57 byte

-- decimal digits, at least one
abbrev pub IsDecimal : List ℕ → Type 0
IsDecimal token = (0 < length token) × All IsDecimalDigit token

-- `digits` hex digits
abbrev pub IsHex : ℕ → List ℕ → Type 0
IsHex digits token = (length token ≡ digits) × All IsHexDigit token

-- `a` to `z` or `0` to `9`
abbrev pub IsNameLetter : ℕ → Type 0
IsNameLetter byte = IsInRange 97 122 byte ⊎ IsInRange 48 57 byte

-- at least one letter, and at most `most`
abbrev pub IsName : ℕ → List ℕ → Type 0
IsName most token = (0 < length token) × (length token ≤ most) × All IsNameLetter token

-- two hex digits for each byte
abbrev pub AreBytes : List ℕ → Type 0
AreBytes [] = ⊤
AreBytes (high ∷ []) = ⊥
AreBytes (high ∷ low ∷ digits) = IsHexDigit high × IsHexDigit low × AreBytes digits

-- the bytes that they write
abbrev pub pair_values : List ℕ → List ℕ
pair_values [] = []
pair_values (high ∷ []) = []
pair_values (high ∷ low ∷ digits) = digits_value 16 (high ∷ low ∷ []) ∷ pair_values digits
