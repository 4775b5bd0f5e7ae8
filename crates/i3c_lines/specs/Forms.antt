-- Which bytes are which command.
use Rattle.std.specs.Prelude.{◌≡◌, ◌⊎◌, ℕ, ◌<◌, ◌≤◌, ◌==◌, Bool, true, false, List, [], ◌∷◌, ◌++◌, Option, Some, None, bit_and, codes, if◌then◌else◌, length, slice_get, take, ◌^◌}
use Rattle.std.specs.List.{list_any}
use Rattle.std.specs.Str.Parse.{digits_value}
use Rattle.i3c_base.specs.declared.device.Setup.{Setup}
use Rattle.i3c_base.specs.declared.datum.Datum.{Datum}
use Rattle.i3c_base.specs.declared.identity.Identity.{Identity}
use Rattle.i3c_base.specs.declared.kinds.Kinds.{Kinds}
use Rattle.i3c_base.specs.declared.requests.Fixed.{Fixed}
use Rattle.i3c_step.specs.declared.events.Command.{Command as Frame}
use Rattle.i3c_lines.specs.declared.command.Command.{Command}
use Rattle.i3c_lines.specs.declared.names.Name.{Name}
use Rattle.i3c_lines.specs.declared.sent.Sent.{Sent}
use Rattle.i3c_lines.specs.Data.{datum_token, length_token, datum_name}
use Rattle.i3c_lines.specs.Naming.{is_same, letters}
use Rattle.i3c_lines.specs.Policies.{AcceptsSome, IsPolicy}
use Rattle.i3c_lines.specs.Tokens.{AreBytes, IsDecimal, IsHex, IsName, pair_values}

-- a byte in front of the first token
abbrev pub with_first : ℕ → List (List ℕ) → List (List ℕ)
with_first byte [] = (byte ∷ []) ∷ []
with_first byte (token ∷ tokens) = (byte ∷ token) ∷ tokens

-- the tokens of a line: the bytes between its spaces, which are 32
abbrev pub tokens_of : List ℕ → List (List ℕ)
tokens_of [] = [] ∷ []
tokens_of (byte ∷ line) = if byte == 32 then [] ∷ tokens_of line else with_first byte (tokens_of line)

-- a token of 1 to 16 letters, which are this name's
abbrev pub IsNamed : List ℕ → Name → Type 0
IsNamed token name = IsName 16 token × (letters name ≡ token)

-- `digits` hex digits, and the number that they write
abbrev pub Writes : ℕ → List ℕ → ℕ → Type 0
Writes digits token number = IsHex digits token × (number ≡ digits_value 16 token)

-- a 7-bit address: two hex digits, at most `7F`
abbrev pub WritesAddress : List ℕ → ℕ → Type 0
WritesAddress token address = Writes 2 token address × (address < 128)

-- two hex digits, whose bits 0, 1 and 3 are kept
abbrev pub WritesKinds : List ℕ → Kinds → Type 0
WritesKinds token kinds = IsHex 2 token × (kinds.0 ≡ bit_and (digits_value 16 token) 0x0B)

-- decimal digits, at most 65535
abbrev pub WritesBit : List ℕ → ℕ → Type 0
WritesBit token bit = IsDecimal token × (bit ≡ digits_value 10 token) × (bit < 65536)

-- the same, but 1 at least
abbrev pub WritesCount : List ℕ → ℕ → Type 0
WritesCount token count = WritesBit token count × (0 < count)

-- decimal digits of a number from 1 on that 64 bits hold
abbrev pub WritesPlace : List ℕ → ℕ → Type 0
WritesPlace token place = IsDecimal token × (place ≡ digits_value 10 token) × (place < 2 ^ 64) × (0 < place)

-- a count of 16 at most
abbrev pub WritesLength : List ℕ → ℕ → Type 0
WritesLength token most = WritesCount token most × (most ≤ 16)

-- three tokens that are an identity
abbrev pub WritesIdentity : List ℕ → List ℕ → List ℕ → Identity → Type 0
WritesIdentity pid bcr dcr identity = Writes 12 pid identity.pid × Writes 2 bcr identity.bcr.0 × Writes 2 dcr identity.dcr.0

-- the tokens behind an identity: none for a device that takes the controller role, or `decline`
abbrev pub willing_tokens : Bool → List (List ℕ)
willing_tokens true = []
willing_tokens false = codes "decline" ∷ []

-- `NAME PID BCR DCR [decline]`
abbrev pub AreDevice : List (List ℕ) → Name → Setup → Type 0
AreDevice tokens name setup =
    (token pid bcr dcr : List ℕ) × (tokens ≡ token ∷ pid ∷ bcr ∷ dcr ∷ willing_tokens setup.willing) × IsNamed token name × WritesIdentity pid bcr dcr setup.identity

-- tokens of an optional byte, `[BYTE]`
abbrev pub AreByte : List (List ℕ) → Option ℕ → Type 0
AreByte tokens None = tokens ≡ []
AreByte tokens (Some byte) = (token : List ℕ) × (tokens ≡ token ∷ []) × Writes 2 token byte

-- tokens of an optional address, `[ADDR]`
abbrev pub AreAddress : List (List ℕ) → Option ℕ → Type 0
AreAddress tokens None = tokens ≡ []
AreAddress tokens (Some address) = (token : List ℕ) × (tokens ≡ token ∷ []) × WritesAddress token address

-- tokens of kinds and an optional address, `BYTE [ADDR]`
abbrev pub AreKinds : List (List ℕ) → Option ℕ → Kinds → Type 0
AreKinds tokens to kinds = (token : List ℕ) × (rest : List (List ℕ)) × (tokens ≡ token ∷ rest) × WritesKinds token kinds × AreAddress rest to

-- the token of a count, `N`
abbrev pub AreCount : List (List ℕ) → ℕ → Type 0
AreCount tokens count = (token : List ℕ) × (tokens ≡ token ∷ []) × WritesCount token count

-- the number of a record
abbrev pub ArePlace : List (List ℕ) → ℕ → Type 0
ArePlace tokens place = (token : List ℕ) × (tokens ≡ token ∷ []) × WritesPlace token place

-- tokens of a length and an optional address, `N [ADDR]`
abbrev pub AreLength : List (List ℕ) → ℕ → Option ℕ → Type 0
AreLength tokens most to = (token : List ℕ) × (rest : List (List ℕ)) × (tokens ≡ token ∷ rest) × WritesLength token most × AreAddress rest to

-- tokens of two addresses, `ADDR ADDR`
abbrev pub AreAddresses : List (List ℕ) → ℕ → ℕ → Type 0
AreAddresses tokens first second = (one other : List ℕ) × (tokens ≡ one ∷ other ∷ []) × WritesAddress one first × WritesAddress other second

-- the tokens of a question for a datum, with the letters `get` taken off the first
abbrev pub AreAsked : List (List ℕ) → Datum → ℕ → Type 0
AreAsked tokens what at = (token : List ℕ) × (tokens ≡ datum_name what ∷ token ∷ []) × WritesAddress token at

-- tokens of a declared identity, `ADDR PID BCR DCR`
abbrev pub AreDeclared : List (List ℕ) → ℕ → Identity → Type 0
AreDeclared tokens address identity = (at pid bcr dcr : List ℕ) × (tokens ≡ at ∷ pid ∷ bcr ∷ dcr ∷ []) × WritesAddress at address × WritesIdentity pid bcr dcr identity

-- `[BYTES]`: of more than seventeen bytes the first ones are kept
abbrev pub AreWritten : List (List ℕ) → List ℕ → Type 0
AreWritten tokens bytes = ((tokens ≡ []) × (bytes ≡ []))
    ⊎ ((token : List ℕ) × (tokens ≡ token ∷ []) × (0 < length token) × AreBytes token × (bytes ≡ take 17 (pair_values token)))

-- each of these tokens is a name that isn't among those before it: so no name comes twice
abbrev pub NameEach : List (List ℕ) → List Name → List Name → Type 0
NameEach [] old new = new ≡ old
NameEach (token ∷ tokens) old new =
    (name : Name) × IsNamed token name × (list_any (λ other. is_same other name) old ≡ false) × NameEach tokens (old ++ name ∷ []) new

-- 1 to 8 names, each once
abbrev pub AreExcepted : List (List ℕ) → List Name → Type 0
AreExcepted tokens names = NameEach tokens [] names × (0 < length names) × (length names ≤ 8)

-- `KIND.. but NAME..` or `all but NAME..`: a policy that accepts some kind, and the devices that it excepts
abbrev pub IsPolicyBut : List (List ℕ) → Fixed → List Name → Type 0
IsPolicyBut tokens kinds names =
    (front behind : List (List ℕ)) × (tokens ≡ front ++ codes "but" ∷ behind) × IsPolicy front kinds × AcceptsSome kinds × AreExcepted behind names

-- these tokens are a frame's line
abbrev pub IsFrameForm : List (List ℕ) → Frame → Type 0
IsFrameForm tokens Frame.Serve = tokens ≡ codes "serve" ∷ []
IsFrameForm tokens (Frame.Enec to kinds) = (rest : List (List ℕ)) × (tokens ≡ codes "enec" ∷ rest) × AreKinds rest to kinds
IsFrameForm tokens (Frame.Disec to kinds) = (rest : List (List ℕ)) × (tokens ≡ codes "disec" ∷ rest) × AreKinds rest to kinds
IsFrameForm tokens Frame.Reset = tokens ≡ codes "reset" ∷ []
IsFrameForm tokens Frame.SendList = tokens ≡ codes "list" ∷ []
IsFrameForm tokens (Frame.ReadFrom at) = (token : List ℕ) × (tokens ≡ codes "read" ∷ token ∷ []) × WritesAddress token at
IsFrameForm tokens (Frame.WriteTo at bytes) = (token : List ℕ) × (rest : List (List ℕ)) × (tokens ≡ codes "write" ∷ token ∷ rest) × WritesAddress token at × AreWritten rest bytes.items
IsFrameForm tokens (Frame.SetStatic at to) = (rest : List (List ℕ)) × (tokens ≡ codes "setdasa" ∷ rest) × AreAddresses rest at to
IsFrameForm tokens (Frame.SetNew at to) = (rest : List (List ℕ)) × (tokens ≡ codes "setnewda" ∷ rest) × AreAddresses rest at to
IsFrameForm tokens (Frame.Get what at) = (token : List ℕ) × (tokens ≡ datum_token what ∷ token ∷ []) × WritesAddress token at
IsFrameForm tokens (Frame.SetLength way most to) = (rest : List (List ℕ)) × (tokens ≡ length_token way ∷ rest) × AreLength rest most to

-- these tokens are a line that a controller sends
abbrev pub IsSentForm : List (List ℕ) → Sent → Type 0
IsSentForm tokens (Sent.Frame frame) = IsFrameForm tokens frame
IsSentForm tokens (Sent.HandOver to) = (token : List ℕ) × (tokens ≡ codes "handover" ∷ token ∷ []) × WritesAddress token to
IsSentForm tokens Sent.Open = tokens ≡ codes "open" ∷ []
IsSentForm tokens Sent.Round = tokens ≡ codes "round" ∷ []
IsSentForm tokens Sent.End = tokens ≡ codes "end" ∷ []
IsSentForm tokens Sent.Daa = tokens ≡ codes "daa" ∷ []

-- these tokens are this command's line
abbrev pub IsForm : List (List ℕ) → Command → Type 0
IsForm tokens (Command.Legacy name address lvr) =
    (token at byte : List ℕ) × (tokens ≡ codes "legacy" ∷ token ∷ at ∷ byte ∷ []) × IsNamed token name × WritesAddress at address × Writes 2 byte lvr.0
IsForm tokens (Command.Declare address identity) = (rest : List (List ℕ)) × (tokens ≡ codes "declare" ∷ rest) × AreDeclared rest address identity
IsForm tokens (Command.Main name setup) = (rest : List (List ℕ)) × (tokens ≡ codes "main" ∷ rest) × AreDevice rest name setup
IsForm tokens (Command.Attach name setup) = (rest : List (List ℕ)) × (tokens ≡ codes "attach" ∷ rest) × AreDevice rest name setup
IsForm tokens (Command.DropOff name) = (token : List ℕ) × (tokens ≡ codes "drop" ∷ token ∷ []) × IsNamed token name
IsForm tokens (Command.Raise name byte) = (token : List ℕ) × (rest : List (List ℕ)) × (tokens ≡ codes "raise" ∷ token ∷ rest) × IsNamed token name × AreByte rest byte
IsForm tokens (Command.AskJoin name) = (token : List ℕ) × (tokens ≡ codes "ask-join" ∷ token ∷ []) × IsNamed token name
IsForm tokens (Command.AskRole name) = (token : List ℕ) × (tokens ≡ codes "ask-role" ∷ token ∷ []) × IsNamed token name
IsForm tokens (Command.Frame frame) = IsSentForm tokens (Sent.Frame frame)
IsForm tokens (Command.HandOver to) = IsSentForm tokens (Sent.HandOver to)
IsForm tokens Command.Open = IsSentForm tokens Sent.Open
IsForm tokens Command.Round = IsSentForm tokens Sent.Round
IsForm tokens Command.End = IsSentForm tokens Sent.End
IsForm tokens Command.Daa = IsSentForm tokens Sent.Daa
IsForm tokens (Command.As name sent) = (token : List ℕ) × (rest : List (List ℕ)) × (tokens ≡ codes "as" ∷ token ∷ rest) × IsNamed token name × IsSentForm rest sent
IsForm tokens (Command.Policy policy) = (rest : List (List ℕ)) × (tokens ≡ codes "policy" ∷ rest) × IsPolicy rest policy
IsForm tokens (Command.PolicyBut kinds but) = (rest : List (List ℕ)) × (tokens ≡ codes "policy" ∷ rest) × IsPolicyBut rest kinds but.items
IsForm tokens (Command.Cut name bit) = (token digits : List ℕ) × (tokens ≡ codes "cut" ∷ token ∷ digits ∷ []) × IsNamed token name × WritesBit digits bit
IsForm tokens Command.Show = tokens ≡ codes "show" ∷ []
IsForm tokens Command.ShowAll = tokens ≡ codes "show" ∷ codes "all" ∷ []
IsForm tokens (Command.ShowFrom first) = (rest : List (List ℕ)) × (tokens ≡ codes "show" ∷ rest) × ArePlace rest first
IsForm tokens (Command.Forget last) = (rest : List (List ℕ)) × (tokens ≡ codes "forget" ∷ rest) × ArePlace rest last
IsForm tokens Command.Symbols = tokens ≡ codes "symbols" ∷ []
IsForm tokens (Command.Frames count) = (rest : List (List ℕ)) × (tokens ≡ codes "frames" ∷ rest) × AreCount rest count

-- a line that is passed over: it is empty, or begins with `#`, which is 35
abbrev pub IsSkipped : List ℕ → Type 0
IsSkipped line = (length line ≤ 256) × ((line ≡ []) ⊎ (slice_get line 0 ≡ Some 35))

-- a line that asks for this command
abbrev pub IsCommand : List ℕ → Command → Type 0
IsCommand line command = (length line ≤ 256) × IsForm (tokens_of line) command

-- a line that is too long, or neither passed over nor any command's
abbrev pub HasNoForm : List ℕ → Type 0
HasNoForm line = (256 < length line) ⊎ ((IsSkipped line → ⊥) × ((command : Command) → IsCommand line command → ⊥))
