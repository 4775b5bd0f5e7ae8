-- Commands as they are printed, each in a line of its form.
use Rattle.std.specs.Prelude.{◌≡◌, ℕ, ◌^◌, ◌<◌, ◌≤◌, ⊤, All, List, [], ◌∷◌, ◌++◌, Option, Some, None, bit_and, codes, length, map}
use Rattle.std.specs.Fmt.{decimal}
use Rattle.i3c_base.specs.Numbers.{IsInRange}
use Rattle.i3c_base.specs.declared.device.Setup.{Setup}
use Rattle.i3c_base.specs.declared.identity.Identity.{Identity}
use Rattle.i3c_base.specs.declared.kinds.Kinds.{Kinds}
use Rattle.i3c_base.specs.declared.requests.Fixed.{Fixed}
use Rattle.i3c_base.specs.declared.requests.Verdict.{Verdict}
use Rattle.i3c_base.specs.declared.requests.Verdict.TheVariants.{Accept, Refuse}
use Rattle.i3c_step.specs.declared.events.Command.{Command as Frame}
use Rattle.i3c_lines.specs.declared.command.Command.{Command}
use Rattle.i3c_lines.specs.declared.names.Name.{Name}
use Rattle.i3c_lines.specs.declared.sent.Sent.{Sent}
use Rattle.i3c_lines.specs.Forms.{AreExcepted, willing_tokens}
use Rattle.i3c_lines.specs.Policies.{AcceptsSome}
use Rattle.i3c_text.specs.Hex.{byte_text, bytes_text, hex_text}
use Rattle.i3c_lines.specs.Data.{datum_token, length_token}
use Rattle.i3c_lines.specs.Naming.{letters}
use Rattle.i3c_lines.specs.Tokens.{IsName}

-- tokens behind a first one, each behind a space
abbrev pub behind : List (List ℕ) → List ℕ
behind [] = []
behind (token ∷ tokens) = 32 ∷ token ++ behind tokens

-- tokens with a space between each two
abbrev pub spaced : List (List ℕ) → List ℕ
spaced [] = []
spaced (token ∷ tokens) = token ++ behind tokens

-- a byte or an address, if there is one
abbrev pub byte_tokens : Option ℕ → List (List ℕ)
byte_tokens None = []
byte_tokens (Some byte) = byte_text byte ∷ []

-- the bytes of a write, if there are some
abbrev pub written_tokens : List ℕ → List (List ℕ)
written_tokens [] = []
written_tokens (byte ∷ bytes) = bytes_text (byte ∷ bytes) ∷ []

-- the tokens of an identity
abbrev pub identity_tokens : Identity → List (List ℕ)
identity_tokens identity = hex_text 12 identity.pid ∷ byte_text identity.bcr.0 ∷ byte_text identity.dcr.0 ∷ []

-- a device's name and identity, and whether it takes the controller role
abbrev pub device_tokens : Name → Setup → List (List ℕ)
device_tokens name setup = letters name ∷ hex_text 12 setup.identity.pid ∷ byte_text setup.identity.bcr.0 ∷ byte_text setup.identity.dcr.0 ∷ willing_tokens setup.willing

-- the tokens of a policy, by its verdicts on joins, role requests and interrupts
abbrev pub verdicts_tokens : Verdict → Verdict → Verdict → List (List ℕ)
verdicts_tokens Accept Accept Accept = codes "all" ∷ []
verdicts_tokens Accept Accept Refuse = codes "joins" ∷ codes "roles" ∷ []
verdicts_tokens Accept Refuse Accept = codes "joins" ∷ codes "interrupts" ∷ []
verdicts_tokens Accept Refuse Refuse = codes "joins" ∷ []
verdicts_tokens Refuse Accept Accept = codes "roles" ∷ codes "interrupts" ∷ []
verdicts_tokens Refuse Accept Refuse = codes "roles" ∷ []
verdicts_tokens Refuse Refuse Accept = codes "interrupts" ∷ []
verdicts_tokens Refuse Refuse Refuse = codes "none" ∷ []

-- the tokens of a policy, and the names of the devices that it excepts
abbrev pub but_tokens : Fixed → List Name → List (List ℕ)
but_tokens kinds names = verdicts_tokens kinds.join kinds.role kinds.interrupt ++ codes "but" ∷ map letters names

-- the tokens of a frame's line
abbrev pub frame_tokens : Frame → List (List ℕ)
frame_tokens Frame.Serve = codes "serve" ∷ []
frame_tokens (Frame.Enec to kinds) = codes "enec" ∷ byte_text kinds.0 ∷ byte_tokens to
frame_tokens (Frame.Disec to kinds) = codes "disec" ∷ byte_text kinds.0 ∷ byte_tokens to
frame_tokens Frame.Reset = codes "reset" ∷ []
frame_tokens Frame.SendList = codes "list" ∷ []
frame_tokens (Frame.ReadFrom at) = codes "read" ∷ byte_text at ∷ []
frame_tokens (Frame.WriteTo at bytes) = codes "write" ∷ byte_text at ∷ written_tokens bytes.items
frame_tokens (Frame.SetStatic at to) = codes "setdasa" ∷ byte_text at ∷ byte_text to ∷ []
frame_tokens (Frame.SetNew at to) = codes "setnewda" ∷ byte_text at ∷ byte_text to ∷ []
frame_tokens (Frame.Get what at) = datum_token what ∷ byte_text at ∷ []
frame_tokens (Frame.SetLength way most to) = length_token way ∷ decimal most ∷ byte_tokens to

-- the tokens of a line that a controller sends
abbrev pub sent_tokens : Sent → List (List ℕ)
sent_tokens (Sent.Frame frame) = frame_tokens frame
sent_tokens (Sent.HandOver to) = codes "handover" ∷ byte_text to ∷ []
sent_tokens Sent.Open = codes "open" ∷ []
sent_tokens Sent.Round = codes "round" ∷ []
sent_tokens Sent.End = codes "end" ∷ []
sent_tokens Sent.Daa = codes "daa" ∷ []

-- the tokens of a command's line
abbrev pub command_tokens : Command → List (List ℕ)
command_tokens (Command.Legacy name address lvr) = codes "legacy" ∷ letters name ∷ byte_text address ∷ byte_text lvr.0 ∷ []
command_tokens (Command.Declare address identity) = codes "declare" ∷ byte_text address ∷ identity_tokens identity
command_tokens (Command.Main name setup) = codes "main" ∷ device_tokens name setup
command_tokens (Command.Attach name setup) = codes "attach" ∷ device_tokens name setup
command_tokens (Command.DropOff name) = codes "drop" ∷ letters name ∷ []
command_tokens (Command.Raise name byte) = codes "raise" ∷ letters name ∷ byte_tokens byte
command_tokens (Command.AskJoin name) = codes "ask-join" ∷ letters name ∷ []
command_tokens (Command.AskRole name) = codes "ask-role" ∷ letters name ∷ []
command_tokens (Command.Frame frame) = sent_tokens (Sent.Frame frame)
command_tokens (Command.HandOver to) = sent_tokens (Sent.HandOver to)
command_tokens Command.Open = sent_tokens Sent.Open
command_tokens Command.Round = sent_tokens Sent.Round
command_tokens Command.End = sent_tokens Sent.End
command_tokens Command.Daa = sent_tokens Sent.Daa
command_tokens (Command.As name sent) = codes "as" ∷ letters name ∷ sent_tokens sent
command_tokens (Command.Policy policy) = codes "policy" ∷ verdicts_tokens policy.join policy.role policy.interrupt
command_tokens (Command.PolicyBut kinds but) = codes "policy" ∷ but_tokens kinds but.items
command_tokens (Command.Cut name bit) = codes "cut" ∷ letters name ∷ decimal bit ∷ []
command_tokens Command.Show = codes "show" ∷ []
command_tokens Command.ShowAll = codes "show" ∷ codes "all" ∷ []
command_tokens (Command.ShowFrom first) = codes "show" ∷ decimal first ∷ []
command_tokens (Command.Forget last) = codes "forget" ∷ decimal last ∷ []
command_tokens Command.Symbols = codes "symbols" ∷ []
command_tokens (Command.Frames count) = codes "frames" ∷ decimal count ∷ []

-- a command's line
abbrev pub command_text : Command → List ℕ
command_text command = spaced (command_tokens command)

-- a name of 1 to 16 letters
abbrev pub IsNamable : Name → Type 0
IsNamable name = IsName 16 (letters name)

-- a number below a bound, if there is one
abbrev pub IsWithin : ℕ → Option ℕ → Type 0
IsWithin bound None = ⊤
IsWithin bound (Some number) = number < bound

-- no bits but those of the kinds
abbrev pub AreKnown : Kinds → Type 0
AreKnown kinds = kinds.0 ≡ bit_and kinds.0 0x0B

-- a frame that a line can ask for
abbrev pub FrameHasLine : Frame → Type 0
FrameHasLine Frame.Serve = ⊤
FrameHasLine (Frame.Enec to kinds) = AreKnown kinds × IsWithin 128 to
FrameHasLine (Frame.Disec to kinds) = AreKnown kinds × IsWithin 128 to
FrameHasLine Frame.Reset = ⊤
FrameHasLine Frame.SendList = ⊤
FrameHasLine (Frame.ReadFrom at) = at < 128
FrameHasLine (Frame.WriteTo at bytes) = (at < 128) × (length bytes.items ≤ 17) × All (λ byte. byte < 256) bytes.items
FrameHasLine (Frame.SetStatic at to) = (at < 128) × (to < 128)
FrameHasLine (Frame.SetNew at to) = (at < 128) × (to < 128)
FrameHasLine (Frame.Get what at) = at < 128
FrameHasLine (Frame.SetLength way most to) = (0 < most) × (most ≤ 16) × IsWithin 128 to

-- a line that a controller can send: its numbers are in range
abbrev pub SentHasLine : Sent → Type 0
SentHasLine (Sent.Frame frame) = FrameHasLine frame
SentHasLine (Sent.HandOver to) = to < 128
SentHasLine Sent.Open = ⊤
SentHasLine Sent.Round = ⊤
SentHasLine Sent.End = ⊤
SentHasLine Sent.Daa = ⊤

-- a command that a line can ask for: its names have letters, its numbers are in range, and the names behind `but` fit into a line
abbrev pub HasLine : Command → Type 0
HasLine (Command.Legacy name address lvr) = IsNamable name × (address < 128) × (lvr.0 < 256)
HasLine (Command.Declare address identity) = (address < 128) × IsInRange identity
HasLine (Command.Main name setup) = IsNamable name × IsInRange setup.identity
HasLine (Command.Attach name setup) = IsNamable name × IsInRange setup.identity
HasLine (Command.DropOff name) = IsNamable name
HasLine (Command.Raise name byte) = IsNamable name × IsWithin 256 byte
HasLine (Command.AskJoin name) = IsNamable name
HasLine (Command.AskRole name) = IsNamable name
HasLine (Command.Frame frame) = SentHasLine (Sent.Frame frame)
HasLine (Command.HandOver to) = SentHasLine (Sent.HandOver to)
HasLine Command.Open = SentHasLine Sent.Open
HasLine Command.Round = SentHasLine Sent.Round
HasLine Command.End = SentHasLine Sent.End
HasLine Command.Daa = SentHasLine Sent.Daa
HasLine (Command.As name sent) = IsNamable name × SentHasLine sent
HasLine (Command.Policy policy) = ⊤
HasLine (Command.PolicyBut kinds but) = AcceptsSome kinds × AreExcepted (map letters but.items) but.items × (length (spaced (codes "policy" ∷ but_tokens kinds but.items)) ≤ 256)
HasLine (Command.Cut name bit) = IsNamable name × (bit < 2 ^ 16)
HasLine Command.Show = ⊤
HasLine Command.ShowAll = ⊤
HasLine (Command.ShowFrom first) = (0 < first) × (first < 2 ^ 64)
HasLine (Command.Forget last) = (0 < last) × (last < 2 ^ 64)
HasLine Command.Symbols = ⊤
HasLine (Command.Frames count) = (0 < count) × (count < 2 ^ 16)
