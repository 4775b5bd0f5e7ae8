-- The bytes of a list, and the words that carry them.
use Rattle.std.specs.Prelude.{◌≡◌, ℕ, ◌*◌, ◌-◌, List, [], ◌∷◌, length, map, All, Option, Some, None}
use Rattle.std.specs.List.{flat_map}
use Rattle.i3c_word.specs.declared.Word.{Word}
use Rattle.i3c_word.specs.Parity.{HasOddParity}
use Rattle.i3c_deftgts.specs.declared.entries.Entry.{Entry}
use Rattle.i3c_deftgts.specs.declared.entries.Entry.TheVariants.{Device, Legacy}

-- the byte of a static address, if there is one: in bits 7:1
abbrev pub static_byte : Option ℕ → ℕ
static_byte None = 0x00
static_byte (Some address) = 2 * address

-- the four bytes of an entry, with addresses in bits 7:1
abbrev pub bytes_of : Entry → List ℕ
bytes_of (Device address dcr bcr fixed) = (2 * address) ∷ dcr.0 ∷ bcr.0 ∷ static_byte fixed ∷ []
bytes_of (Legacy address lvr) = 0x00 ∷ lvr.0 ∷ 0x00 ∷ (2 * address) ∷ []

-- the bytes of a list: how many entries follow the first one, and then the entries
abbrev pub list_bytes : List Entry → List ℕ
list_bytes entries = (length entries - 1) ∷ flat_map bytes_of entries

-- the bytes that words carry
abbrev pub bytes : List Word → List ℕ
bytes words = map (λ word. word.byte) words

-- the words carry these bytes, each with odd parity
pub record Carry (sent : List ℕ) (words : List Word) : Type 0 where
  pub same : bytes words ≡ sent
  pub odd : All HasOddParity words
