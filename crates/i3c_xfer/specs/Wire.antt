-- What private transfers and codes of data put on the wire.
use Rattle.std.specs.Prelude.{◌≡◌, ℕ, Bool, true, false, List, [], ◌∷◌, ◌++◌, ⊤}
use Rattle.i3c_word.specs.declared.Word.{Word}
use Rattle.i3c_word.specs.Parity.{HasOddParity}
use Rattle.i3c_frame.specs.declared.symbols.Symbol.{Symbol}
use Rattle.i3c_frame.specs.declared.symbols.Symbol.TheVariants.{Repeated, Stop, Header, LegacyWord}
use Rattle.i3c_base.specs.declared.datum.Datum.{Datum}
use Rattle.i3c_ccc.specs.Codes.{byte_of_datum}
use Rattle.i3c_xfer.specs.declared.answers.Get.{Get}
use Rattle.i3c_xfer.specs.declared.answers.Read.{Read}
use Rattle.i3c_xfer.specs.declared.answers.Write.{Write}
use Rattle.i3c_xfer.specs.declared.wire.Side.{Side}
use Rattle.i3c_xfer.specs.declared.wire.Side.TheVariants.{Devices, Legacy}

-- a byte that is read, with its ninth bit: of a device a T, of a legacy target an ACK or a NACK
abbrev pub word_of : Side → Bool → ℕ → Symbol
word_of Devices ninth byte = Symbol.Word (record { byte = byte; t = ninth })
word_of Legacy ninth byte = LegacyWord byte ninth

-- bytes that are read: 1 or ACK while more follow, and this ninth bit after the last
abbrev pub read_words : Side → Bool → List ℕ → List Symbol
read_words side last [] = []
read_words side last (byte ∷ []) = word_of side last byte ∷ []
read_words side last (byte ∷ next ∷ more) = word_of side true byte ∷ read_words side last (next ∷ more)

-- a byte that is written: to a device a word with odd parity, to a legacy target acknowledged
abbrev pub IsWrittenWord : Side → ℕ → Symbol → Type 0
IsWrittenWord Devices byte symbol = (word : Word) × (word.byte ≡ byte) × HasOddParity word × (symbol ≡ Symbol.Word word)
IsWrittenWord Legacy byte symbol = symbol ≡ LegacyWord byte true

-- bytes that are written, each as one symbol
abbrev pub AreWritten : Side → List ℕ → List Symbol → Type 0
AreWritten side [] [] = ⊤
AreWritten side (byte ∷ bytes) (symbol ∷ symbols) = IsWrittenWord side byte symbol × AreWritten side bytes symbols
AreWritten side _ _ = ⊥

-- a transfer whose header is acknowledged, with these words
abbrev pub answered_wire : ℕ → Bool → List Symbol → List Symbol
answered_wire to read words = Repeated ∷ Header to read true ∷ words ++ Stop ∷ []

-- a transfer whose header isn't acknowledged
abbrev pub IsUnansweredWire : ℕ → Bool → List Symbol → Type 0
IsUnansweredWire to read wire = wire ≡ Repeated ∷ Header to read false ∷ Stop ∷ []

-- a read: a device's last T is 0, or 1 where nobody was left to end it; a legacy target's last byte has a NACK
abbrev pub IsReadWire : ℕ → Read → List Symbol → Type 0
IsReadWire to Read.Nobody wire = IsUnansweredWire to true wire
IsReadWire to (Read.Legacy bytes) wire = wire ≡ answered_wire to true (read_words Legacy false bytes)
IsReadWire to (Read.Ended bytes) wire = wire ≡ answered_wire to true (read_words Devices false bytes)
IsReadWire to (Read.Torn bytes) wire = wire ≡ answered_wire to true (read_words Devices true bytes)

-- the code of a datum as a word, with odd parity
abbrev pub IsAskingWord : Datum → Word → Type 0
IsAskingWord what word = (word.byte ≡ byte_of_datum what) × HasOddParity word

-- a datum that is asked for, behind its code: the last T is 0, or 1 where nobody was left to end it
abbrev pub IsToldWire : ℕ → Get → List Symbol → Type 0
IsToldWire to Get.Nobody wire = IsUnansweredWire to true wire
IsToldWire to (Get.Ended bytes) wire = wire ≡ answered_wire to true (read_words Devices false bytes)
IsToldWire to (Get.Torn bytes) wire = wire ≡ answered_wire to true (read_words Devices true bytes)

-- a datum that is asked for
abbrev pub IsGetWire : Datum → ℕ → Get → List Symbol → Type 0
IsGetWire what to get wire = (code : Word) × (told : List Symbol) × IsAskingWord what code × IsToldWire to get told × (wire ≡ Symbol.Word code ∷ told)

-- a write that is acknowledged
abbrev pub IsWrittenWire : ℕ → Side → List ℕ → List Symbol → Type 0
IsWrittenWire to side bytes wire = (words : List Symbol) × AreWritten side bytes words × (wire ≡ answered_wire to false words)

-- the wire of a write, by its result
abbrev pub IsWriteWire : ℕ → List ℕ → Write → List Symbol → Type 0
IsWriteWire to bytes Write.Nobody wire = IsUnansweredWire to false wire
IsWriteWire to bytes Write.Legacy wire = IsWrittenWire to Legacy bytes wire
IsWriteWire to bytes Write.Devices wire = IsWrittenWire to Devices bytes wire
