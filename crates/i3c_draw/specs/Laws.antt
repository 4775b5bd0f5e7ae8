-- What holds of every text in XML.
use Rattle.std.specs.Prelude.{◌≡◌, ℕ, ◌==◌, nat_lt, Bool, true, not, ◌||◌, List}
use Rattle.std.specs.List.{list_all}
use Rattle.i3c_draw.specs.Escaped.{escaped}

-- a byte that is allowed in XML: it is printed ASCII, and neither `<` nor `>`
abbrev pub is_plain : ℕ → Bool
is_plain byte = not (nat_lt byte 32 || (nat_lt 126 byte || (byte == 60 || byte == 62)))

-- the escaped text of a script's bytes is plain, whatever they are
abbrev pub EscapedIsPlain : Type 0
EscapedIsPlain = (text : List ℕ) → list_all is_plain (escaped text) ≡ true
