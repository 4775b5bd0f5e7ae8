-- What ENEC, DISEC, SETDASA, SETNEWDA, SETMWL and SETMRL put on the wire.
use Rattle.std.specs.Prelude.{◌≡◌, ℕ, ◌*◌, true, false, List, [], ◌∷◌, ◌++◌, map, Option, Some, None}
use Rattle.i3c_base.specs.declared.answers.Answer.{Answer}
use Rattle.i3c_base.specs.declared.datum.Direction.{Direction}
use Rattle.i3c_base.specs.declared.kinds.Change.{Change}
use Rattle.i3c_base.specs.declared.kinds.Kinds.{Kinds}
use Rattle.i3c_base.specs.Numbers.{kind_set}
use Rattle.i3c_word.specs.declared.Word.{Word}
use Rattle.i3c_word.specs.Parity.{HasOddParity}
use Rattle.i3c_frame.specs.declared.symbols.Symbol.{Symbol}
use Rattle.i3c_frame.specs.declared.symbols.Symbol.TheVariants.{Repeated, Stop, Header}
use Rattle.i3c_events.specs.Words.{code_byte, kinds_byte, length_code_byte}

-- the byte as a word, with odd parity
abbrev pub IsWord : ℕ → Word → Type 0
IsWord byte word = (word.byte ≡ byte) × HasOddParity word

-- ENEC or DISEC: to all, the code and the kinds; to one address, the code, a header, and where it was acknowledged the kinds
abbrev pub IsKindsWire : Change → Option ℕ → Kinds → Answer → List Symbol → Type 0
IsKindsWire change None kinds answer wire =
    (code : Word) × (byte : Word) × IsWord (code_byte change None) code × IsWord (kinds_byte (kind_set kinds)) byte
    × (wire ≡ Symbol.Word code ∷ Symbol.Word byte ∷ Stop ∷ [])
IsKindsWire change (Some a) kinds (Answer.NoAnswer b) wire =
    (code : Word) × IsWord (code_byte change (Some a)) code × (wire ≡ Symbol.Word code ∷ Repeated ∷ Header a false false ∷ Stop ∷ [])
IsKindsWire change (Some a) kinds answer wire =
    (code : Word) × (byte : Word) × IsWord (code_byte change (Some a)) code × IsWord (kinds_byte (kind_set kinds)) byte
    × (wire ≡ Symbol.Word code ∷ Repeated ∷ Header a false true ∷ Symbol.Word byte ∷ Stop ∷ [])

-- SETDASA or SETNEWDA to a target that nobody acknowledges: the code and a header
abbrev pub IsUnsetWire : ℕ → ℕ → List Symbol → Type 0
IsUnsetWire code target wire = (word : Word) × IsWord code word × (wire ≡ Symbol.Word word ∷ Repeated ∷ Header target false false ∷ Stop ∷ [])

-- SETDASA or SETNEWDA with this code to a target: the code, a header, and where it was acknowledged the new address in bits 7:1
abbrev pub IsSettingWire : ℕ → ℕ → ℕ → Answer → List Symbol → Type 0
IsSettingWire code target new (Answer.NoAnswer a) wire = IsUnsetWire code target wire
IsSettingWire code target new answer wire =
    (word : Word) × (byte : Word) × IsWord code word × IsWord (2 * new) byte
    × (wire ≡ Symbol.Word word ∷ Repeated ∷ Header target false true ∷ Symbol.Word byte ∷ Stop ∷ [])

-- SETMWL or SETMRL: to all, the code and the length in two words; to one address, the code, a header, and where it was
-- acknowledged the two words
abbrev pub IsLengthWire : Direction → Option ℕ → ℕ → Answer → List Symbol → Type 0
IsLengthWire way None most answer wire =
    (code : Word) × (upper : Word) × (lower : Word) × IsWord (length_code_byte way None) code × IsWord 0 upper × IsWord most lower
    × (wire ≡ Symbol.Word code ∷ Symbol.Word upper ∷ Symbol.Word lower ∷ Stop ∷ [])
IsLengthWire way (Some a) most (Answer.NoAnswer b) wire =
    (code : Word) × IsWord (length_code_byte way (Some a)) code × (wire ≡ Symbol.Word code ∷ Repeated ∷ Header a false false ∷ Stop ∷ [])
IsLengthWire way (Some a) most answer wire =
    (code : Word) × (upper : Word) × (lower : Word) × IsWord (length_code_byte way (Some a)) code × IsWord 0 upper × IsWord most lower
    × (wire ≡ Symbol.Word code ∷ Repeated ∷ Header a false true ∷ Symbol.Word upper ∷ Symbol.Word lower ∷ Stop ∷ [])

-- the same of any command: its code, the header of its target if it has one, and its data, unless nobody acknowledges that
-- header
abbrev pub command_wire : Word → Option ℕ → List Word → Answer → List Symbol
command_wire code None words answer = Symbol.Word code ∷ map Symbol.Word words ++ Stop ∷ []
command_wire code (Some a) words (Answer.NoAnswer b) = Symbol.Word code ∷ Repeated ∷ Header a false false ∷ Stop ∷ []
command_wire code (Some a) words answer = Symbol.Word code ∷ Repeated ∷ Header a false true ∷ map Symbol.Word words ++ Stop ∷ []
