-- Common command codes, their bytes, and which of them are known by name.
use Rattle.std.specs.Prelude.{ℕ, ◌==◌, ◌||◌, Bool, true, false, List, [], ◌∷◌, ◌++◌, if◌then◌else◌}
use Rattle.i3c_base.specs.declared.datum.Datum.{Datum}
use Rattle.i3c_base.specs.declared.datum.Direction.{Direction}
use Rattle.i3c_ccc.specs.declared.codes.Code.{Code}
use Rattle.i3c_ccc.specs.declared.codes.CodeSet.{CodeSet}
use Rattle.i3c_ccc.specs.declared.codes.Code.TheVariants.{Enec, Disec, Rstdaa, Entdaa, Deftgts, SetLength, EnecDirect, DisecDirect, Setdasa, Setnewda, SetLengthDirect, Get, Getacccr, Other}

-- the byte of the code that asks for a datum
abbrev pub byte_of_datum : Datum → ℕ
byte_of_datum Datum.WriteLength = 0x8B
byte_of_datum Datum.ReadLength = 0x8C
byte_of_datum Datum.Pid = 0x8D
byte_of_datum Datum.Bcr = 0x8E
byte_of_datum Datum.Dcr = 0x8F
byte_of_datum Datum.Status = 0x90
byte_of_datum Datum.Speed = 0x94
byte_of_datum Datum.Capabilities = 0x95

-- the byte that stands for a command code on the wire
abbrev pub byte_of_code : Code → ℕ
byte_of_code Enec = 0x00
byte_of_code Disec = 0x01
byte_of_code Rstdaa = 0x06
byte_of_code Entdaa = 0x07
byte_of_code Deftgts = 0x08
byte_of_code (SetLength Direction.Write) = 0x09
byte_of_code (SetLength Direction.Read) = 0x0A
byte_of_code EnecDirect = 0x80
byte_of_code DisecDirect = 0x81
byte_of_code Setdasa = 0x87
byte_of_code Setnewda = 0x88
byte_of_code (SetLengthDirect Direction.Write) = 0x89
byte_of_code (SetLengthDirect Direction.Read) = 0x8A
byte_of_code (Get what) = byte_of_datum what
byte_of_code Getacccr = 0x91
byte_of_code (Other byte) = byte

-- the table of codes, which a trace knows
abbrev pub table : List Code
table = Enec ∷ Disec ∷ Rstdaa ∷ Entdaa ∷ Deftgts ∷ EnecDirect ∷ DisecDirect ∷ Setdasa ∷ Setnewda ∷ Getacccr ∷ []

-- the codes that this engine knows beyond the table
abbrev pub extension : List Code
extension =
    SetLength Direction.Write ∷ SetLength Direction.Read ∷ SetLengthDirect Direction.Write ∷ SetLengthDirect Direction.Read
    ∷ Get Datum.WriteLength ∷ Get Datum.ReadLength ∷ Get Datum.Pid ∷ Get Datum.Bcr ∷ Get Datum.Dcr ∷ Get Datum.Status ∷ Get Datum.Speed
    ∷ Get Datum.Capabilities ∷ []

-- all codes that this engine knows
abbrev pub extended : List Code
extended = extension ++ table

-- the codes of a set
abbrev pub codes_of : CodeSet → List Code
codes_of CodeSet.Table = table
codes_of CodeSet.Extended = extended

-- the code among these with this byte, or `Other` where none has it
abbrev pub code_among : List Code → ℕ → Code
code_among [] byte = Other byte
code_among (code ∷ rest) byte = if byte == byte_of_code code then code else code_among rest byte

-- one of these codes has this byte
abbrev pub is_among : ℕ → List Code → Bool
is_among byte [] = false
is_among byte (code ∷ rest) = (byte == byte_of_code code) || is_among byte rest

-- a code that isn't known by name
abbrev pub is_other : Code → Bool
is_other (Other byte) = true
is_other code = false
