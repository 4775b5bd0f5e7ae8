-- Numbers as they are printed in hex, in upper case.
use Rattle.std.specs.Prelude.{ℕ, zero, suc, ◌/◌, ◌%◌, true, List, [], ◌∷◌, ◌++◌}
use Rattle.std.specs.Fmt.{digit_glyph}

-- a byte in two hex digits
abbrev pub byte_text : ℕ → List ℕ
byte_text byte = digit_glyph true (byte / 16) ∷ digit_glyph true (byte % 16) ∷ []

-- two digits for each byte
abbrev pub bytes_text : List ℕ → List ℕ
bytes_text [] = []
bytes_text (byte ∷ bytes) = byte_text byte ++ bytes_text bytes

-- the last `count` digits of a number
unfoldable pub hex_text : ℕ → ℕ → List ℕ
hex_text zero number = []
hex_text (suc count) number = hex_text count (number / 16) ++ digit_glyph true (number % 16) ∷ []
