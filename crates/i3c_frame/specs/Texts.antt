-- The texts of symbols.
use Rattle.std.specs.Prelude.{⊤, ◌≡◌, ◌<◌, ◌^◌, ℕ, zero, suc, ◌/◌, ◌%◌, Bool, true, false, List, [], ◌∷◌, ◌++◌, codes, Option, IsSome}
use Rattle.i3c_text.specs.Hex.{hex_text}
use Rattle.i3c_frame.specs.declared.symbols.Symbol.{Symbol}
use Rattle.i3c_frame.specs.declared.symbols.Symbol.TheVariants.{Start, Repeated, Stop, Header, Word, Identity, AddressByte, LegacyWord}

-- the direction of a header: read or write
abbrev pub direction_text : Bool → List ℕ
direction_text true = codes "/R"
direction_text false = codes "/W"

-- the answer to a header: ACK or NACK
abbrev pub answer_text : Bool → List ℕ
answer_text true = codes "+"
answer_text false = codes "-"

-- the T bit of a word
abbrev pub t_text : Bool → List ℕ
t_text true = codes ".1"
t_text false = codes ".0"

-- the text of a symbol
abbrev pub text_of : Symbol → List ℕ
text_of Start = codes "S"
text_of Repeated = codes "Sr"
text_of Stop = codes "P"
text_of (Header address read ack) = hex_text 2 address ++ (direction_text read ++ answer_text ack)
text_of (Word word) = hex_text 2 word.byte ++ t_text word.t
text_of (Identity bits) = codes "=" ++ hex_text 16 bits
text_of (AddressByte byte ack) = codes "@" ++ (hex_text 2 byte ++ answer_text ack)
text_of (LegacyWord byte ack) = hex_text 2 byte ++ answer_text ack

-- the numbers of a symbol fit their types
abbrev pub IsInRange : Symbol → Type 0
IsInRange (Header address read ack) = address < 128
IsInRange (Word word) = word.byte < 2 ^ 8
IsInRange (Identity bits) = bits < 2 ^ 64
IsInRange (AddressByte byte ack) = byte < 2 ^ 8
IsInRange (LegacyWord byte ack) = byte < 2 ^ 8
IsInRange _ = ⊤

-- the text is the symbol's
abbrev pub HasText : List ℕ → Symbol → Type 0
HasText text symbol = text_of symbol ≡ text

-- a symbol was found if the text is one's
abbrev pub FindsSymbol : List ℕ → Option Symbol → Type 0
FindsSymbol text found = (symbol : Symbol) → IsInRange symbol → HasText text symbol → IsSome found
