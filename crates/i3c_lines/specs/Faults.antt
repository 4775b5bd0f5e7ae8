-- Why a line has no form.
use Rattle.std.specs.Prelude.{⊤, ◌≡◌, ℕ, ◌-◌, ◌<◌, ◌≤◌, ◌⊎◌, nat_lt, ◌||◌, List, [], ◌∷◌, ◌++◌, All, Some, Bool, codes, if◌then◌else◌, length, map, slice_get, ◌==◌, false, true, ◌^◌}
use Rattle.std.specs.List.{list_any}
use Rattle.std.specs.Str.Parse.{digits_value}
use Rattle.i3c_base.specs.declared.requests.Fixed.{Fixed}
use Rattle.i3c_base.specs.declared.requests.Verdict.TheVariants.{Refuse}
use Rattle.i3c_lines.specs.declared.fields.Field.{Field}
use Rattle.i3c_lines.specs.declared.form_faults.FormFault.{FormFault}
use Rattle.i3c_lines.specs.Forms.{tokens_of}
use Rattle.i3c_lines.specs.Sending.{is_sent_word}
use Rattle.i3c_lines.specs.Policies.{Accepts, IsAlone, each_kind}
use Rattle.i3c_lines.specs.Tokens.{AreBytes, IsDecimal, IsDecimalDigit, IsHex, IsName}

-- a token that has a field's form
abbrev pub IsField : Field → List ℕ → Type 0
IsField Field.Name token = IsName 16 token
IsField Field.Pid token = IsHex 12 token
IsField Field.Bcr token = IsHex 2 token
IsField Field.Dcr token = IsHex 2 token
IsField Field.Lvr token = IsHex 2 token
IsField Field.Addr token = IsHex 2 token × (digits_value 16 token < 128)
IsField Field.Old token = IsHex 2 token × (digits_value 16 token < 128)
IsField Field.New token = IsHex 2 token × (digits_value 16 token < 128)
IsField Field.Byte token = IsHex 2 token
IsField Field.Bytes token = (0 < length token) × AreBytes token
IsField Field.Bit token = IsDecimal token × (digits_value 10 token < 65536)
IsField Field.Count token = IsDecimal token × (digits_value 10 token < 65536) × (0 < digits_value 10 token)
IsField Field.Length token = IsDecimal token × (digits_value 10 token < 65536) × (0 < digits_value 10 token) × (digits_value 10 token ≤ 16)
IsField Field.Place token = IsDecimal token × (digits_value 10 token < 2 ^ 64) × (0 < digits_value 10 token)
IsField Field.Policy token = (policy : Fixed) × (IsAlone token policy ⊎ Accepts token (each_kind Refuse) policy)
IsField Field.Kind token = (policy : Fixed) × Accepts token (each_kind Refuse) policy
IsField Field.Decline token = token ≡ codes "decline"
IsField Field.Shown token = (token ≡ codes "all") ⊎ (IsDecimal token × (digits_value 10 token < 2 ^ 64) × (0 < digits_value 10 token))
IsField Field.Sent token = is_sent_word token ≡ true

-- a token is one of these
abbrev pub IsAmong : List ℕ → List (List ℕ) → Type 0
IsAmong token tokens = (front behind : List (List ℕ)) × (tokens ≡ front ++ token ∷ behind)

-- the first token of a mark with facts
abbrev pub IsFactsWord : List ℕ → Type 0
IsFactsWord token = (token ≡ codes "expect") ⊎ (token ≡ codes "always")

-- what a fault says of a line's first token, and of those behind it: the first is the one that no command has, and the fault lies
-- in one of the others, or behind them
abbrev pub IsTokenFault : List ℕ → List (List ℕ) → FormFault → Type 0
IsTokenFault first rest FormFault.TwoSpaces = IsAmong [] rest
IsTokenFault first rest (FormFault.Unknown token) = token.now ≡ first
IsTokenFault first rest (FormFault.Missing field) = ⊤
IsTokenFault first rest (FormFault.Misfit field token) = IsAmong token.now rest × (IsField field token.now → ⊥)
IsTokenFault first rest (FormFault.Surplus token) = IsAmong token.now rest
IsTokenFault first rest (FormFault.Repeated token) = IsAmong token.now rest
IsTokenFault first rest FormFault.MissingFact = IsFactsWord first
IsTokenFault first rest (FormFault.NoFact token) = IsFactsWord first × IsAmong token.now rest
IsTokenFault first rest _ = ⊥

-- what a fault says of its line is so
abbrev pub IsSo : List ℕ → FormFault → Type 0
IsSo line FormFault.TooLong = 256 < length line
IsSo line FormFault.Mark = (rest : List ℕ) × (line ≡ 0xEF ∷ 0xBB ∷ 0xBF ∷ rest)
IsSo line FormFault.Return = slice_get line (length line - 1) ≡ Some 13
IsSo line FormFault.Tab = list_any (λ byte. byte == 9) line ≡ true
IsSo line FormFault.FirstSpace = slice_get line 0 ≡ Some 32
IsSo line FormFault.LastSpace = slice_get line (length line - 1) ≡ Some 32
IsSo line fault = (first : List ℕ) × (rest : List (List ℕ)) × (tokens_of line ≡ first ∷ rest) × IsTokenFault first rest fault

-- a byte as it is told: one that doesn't print is a question mark
abbrev pub printed : ℕ → ℕ
printed byte = if nat_lt byte 32 || nat_lt 126 byte then 63 else byte

-- a token in quotes
abbrev pub quoted : List ℕ → List ℕ
quoted token = codes "'" ++ (map printed token ++ codes "'")

-- what the documents call a field: one whose token can only be one or be left out has no name
abbrev pub label : Field → List ℕ
label Field.Name = codes "NAME"
label Field.Pid = codes "PID"
label Field.Bcr = codes "BCR"
label Field.Dcr = codes "DCR"
label Field.Lvr = codes "LVR"
label Field.Addr = codes "ADDR"
label Field.Old = codes "OLD"
label Field.New = codes "NEW"
label Field.Byte = codes "BYTE"
label Field.Bytes = codes "BYTES"
label Field.Bit = codes "BIT"
label Field.Count = codes "N"
label Field.Length = codes "N"
label Field.Place = codes "N"
label Field.Policy = codes "POLICY"
label Field.Kind = codes "KIND"
label Field.Sent = codes "LINE"
label Field.Decline = []
label Field.Shown = []

-- what is expected there
abbrev pub expected : Field → List ℕ
expected Field.Name = codes "1 to 16 small letters and digits"
expected Field.Pid = codes "12 hexadecimal digits in capitals"
expected Field.Bcr = codes "two hexadecimal digits in capitals"
expected Field.Dcr = codes "two hexadecimal digits in capitals"
expected Field.Lvr = codes "two hexadecimal digits in capitals"
expected Field.Addr = codes "two hexadecimal digits in capitals, up to 7F"
expected Field.Old = codes "two hexadecimal digits in capitals, up to 7F"
expected Field.New = codes "two hexadecimal digits in capitals, up to 7F"
expected Field.Byte = codes "two hexadecimal digits in capitals"
expected Field.Bytes = codes "two hexadecimal digits in capitals for each byte"
expected Field.Bit = codes "decimal digits, up to 65535"
expected Field.Count = codes "decimal digits, 1 to 65535"
expected Field.Length = codes "decimal digits, 1 to 16"
expected Field.Place = codes "a record's number from 1 on"
expected Field.Policy = codes "all, none, joins, roles or interrupts"
expected Field.Kind = codes "joins, roles, interrupts or but"
expected Field.Decline = codes "'decline' or nothing"
expected Field.Shown = codes "'all', a record's number from 1 on, or nothing"
expected Field.Sent = codes "a line that a controller sends, such as serve, write or daa"

-- a field whose numbers are hexadecimal
abbrev pub is_hexadecimal : Field → Bool
is_hexadecimal Field.Pid = true
is_hexadecimal Field.Bcr = true
is_hexadecimal Field.Dcr = true
is_hexadecimal Field.Lvr = true
is_hexadecimal Field.Addr = true
is_hexadecimal Field.Old = true
is_hexadecimal Field.New = true
is_hexadecimal Field.Byte = true
is_hexadecimal Field.Bytes = true
is_hexadecimal _ = false

-- one text if a fact holds, and another if it doesn't
abbrev pub IsEither : Type 0 → List ℕ → List ℕ → List ℕ → Type 0
IsEither Fact one other text = (Fact × (text ≡ one)) ⊎ ((Fact → ⊥) × (text ≡ other))

-- what is said of a token that hasn't its field's form, and no `0x`
abbrev pub IsOwnLesson : Field → List ℕ → List ℕ → Type 0
IsOwnLesson Field.Name token lesson = IsEither (16 < length token) (codes "longer than 16 letters") (expected Field.Name) lesson
IsOwnLesson Field.Addr token lesson = IsEither (IsHex 2 token) (codes "above 7F") (expected Field.Addr) lesson
IsOwnLesson Field.Old token lesson = IsEither (IsHex 2 token) (codes "above 7F") (expected Field.Old) lesson
IsOwnLesson Field.New token lesson = IsEither (IsHex 2 token) (codes "above 7F") (expected Field.New) lesson
IsOwnLesson Field.Bit token lesson = IsEither (All IsDecimalDigit token) (codes "above 65535") (expected Field.Bit) lesson
IsOwnLesson field token lesson = lesson ≡ expected field

-- a token of a hexadecimal field begins with `0x`
abbrev pub IsPrefixed : Field → List ℕ → Type 0
IsPrefixed field token = (is_hexadecimal field ≡ true) × ((rest : List ℕ) × (token ≡ codes "0x" ++ rest))

-- what is said of a token that hasn't its field's form
abbrev pub IsLesson : Field → List ℕ → List ℕ → Type 0
IsLesson field token lesson =
    (IsPrefixed field token × (lesson ≡ codes "hexadecimal digits in capitals, without 0x")) ⊎ ((IsPrefixed field token → ⊥) × IsOwnLesson field token lesson)

-- a field's name and a space, if it has a name
abbrev pub labelled : List ℕ → List ℕ
labelled [] = []
labelled (letter ∷ name) = (letter ∷ name) ++ codes " "

-- what is said behind a token that no command has: the nearest first token of a command, or nothing
abbrev pub IsNear : List ℕ → Type 0
IsNear near = (near ≡ []) ⊎ ((word : List ℕ) × (near ≡ codes "; the nearest is " ++ quoted word))

-- a fault as it is told
abbrev pub IsFaultText : FormFault → List ℕ → Type 0
IsFaultText FormFault.TooLong text = text ≡ codes "longer than 256 bytes"
IsFaultText FormFault.Mark text = text ≡ codes "begins with a byte-order mark"
IsFaultText FormFault.Return text = text ≡ codes "ends in a carriage return"
IsFaultText FormFault.Tab text = text ≡ codes "has a tab, where one space parts words"
IsFaultText FormFault.FirstSpace text = text ≡ codes "begins with a space"
IsFaultText FormFault.TwoSpaces text = text ≡ codes "has two spaces in a row, where one parts words"
IsFaultText FormFault.LastSpace text = text ≡ codes "ends in a space"
IsFaultText (FormFault.Unknown token) text = (near : List ℕ) × IsNear near × (text ≡ quoted token.now ++ (codes ": no command" ++ near))
IsFaultText (FormFault.Missing field) text = text ≡ label field ++ (codes " is missing: " ++ expected field)
IsFaultText (FormFault.Misfit field token) text =
    (lesson : List ℕ) × IsLesson field token.now lesson × (text ≡ labelled (label field) ++ (quoted token.now ++ (codes ": " ++ lesson)))
IsFaultText (FormFault.Surplus token) text = text ≡ quoted token.now ++ codes ": a word too many"
IsFaultText (FormFault.Repeated token) text = text ≡ quoted token.now ++ codes ": named twice"
IsFaultText FormFault.MissingFact text = text ≡ codes "a word of FACT is missing"
IsFaultText (FormFault.NoFact token) text = text ≡ quoted token.now ++ codes ": no word of a fact"

-- why a line has no form, as it is told
abbrev pub IsReason : List ℕ → List ℕ → Type 0
IsReason line reason = (fault : FormFault) × IsSo line fault × IsFaultText fault reason
