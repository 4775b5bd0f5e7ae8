-- What lines print.
use Rattle.std.specs.Prelude.{ℕ, Bool, true, false, List, [], ◌∷◌, ◌++◌, codes, Option, Some, None, Result, Ok, Err}
use Rattle.std.specs.Fmt.{decimal}
use Rattle.std.specs.List.{flat_map}
use Rattle.i3c_base.specs.declared.identity.Identity.{Identity}
use Rattle.i3c_base.specs.declared.requests.Record.{Record}
use Rattle.i3c_base.specs.declared.requests.Request.{Request}
use Rattle.i3c_base.specs.declared.requests.Request.TheVariants.{Interrupt, Join, Role}
use Rattle.i3c_base.specs.declared.requests.Served.{Served}
use Rattle.i3c_base.specs.State.{State}
use Rattle.i3c_frame.specs.Texts.{text_of}
use Rattle.i3c_lines.specs.declared.names.Name.{Name}
use Rattle.i3c_text.specs.Hex.{byte_text, bytes_text, hex_text}
use Rattle.i3c_lines.specs.Data.{datum_name}
use Rattle.i3c_lines.specs.Keeping.{NamesKept}
use Rattle.i3c_lines.specs.Naming.{letters}
use Rattle.i3c_lines.specs.Refusing.{refusal_text}
use Rattle.i3c_lines.specs.declared.refusals.Refusal.{Refusal}
use Rattle.i3c_text.specs.declared.line_error.LineError.{LineError}
use Rattle.i3c_script.specs.declared.piece.Description.{Description}
use Rattle.i3c_script.specs.declared.piece.Piece.{Piece}
use Rattle.i3c_script.specs.Pieces.{numbered_pieces, show_pieces}

-- what a line's end prints: its refusal, if it is refused
abbrev pub end_text : Result (Unit {0}) (LineError Refusal) → List ℕ
end_text (Ok done) = []
end_text (Err LineError.Memory) = []
end_text (Err (LineError.Refused why)) = codes "refused " ++ (refusal_text why ++ 10 ∷ [])

-- some tokens and a number
abbrev pub number_text : List ℕ → ℕ → List ℕ
number_text tokens number = tokens ++ (decimal number ++ 10 ∷ [])

-- the result of a request
abbrev pub served_text : Served → List ℕ
served_text Served.Quiet = codes "quiet" ++ 10 ∷ []
served_text (Served.Recorded place) = number_text (codes "recorded ") place
served_text Served.Refused = codes "turned down" ++ 10 ∷ []
served_text Served.Torn = codes "torn" ++ 10 ∷ []
served_text Served.Joining = codes "joining" ++ 10 ∷ []
served_text (Served.WantsRole a) = codes "wants role " ++ (byte_text a ++ 10 ∷ [])

-- a register of an identity, after a space
abbrev pub field_text : ℕ → List ℕ
field_text byte = codes " " ++ byte_text byte

-- an identity, at the end of a line
abbrev pub identity_text : Identity → List ℕ
identity_text identity = hex_text 12 identity.pid ++ (field_text identity.bcr.0 ++ (field_text identity.dcr.0 ++ 10 ∷ []))

-- an address and the identity that got it
abbrev pub assigned_text : ℕ → Identity → List ℕ
assigned_text a identity = codes "assigned " ++ (byte_text a ++ (codes " " ++ identity_text identity))

-- an address or a byte, or that there is none
abbrev pub byte_or_none : Option ℕ → List ℕ
byte_or_none None = codes "--"
byte_or_none (Some byte) = byte_text byte

-- `legacy`: a target that was declared
abbrev pub added_text : Name → ℕ → List ℕ
added_text name a = letters name ++ (codes " legacy at " ++ (byte_text a ++ 10 ∷ []))

-- `declare`: the static address at which an identity was declared
abbrev pub declared_text : ℕ → List ℕ
declared_text a = codes "declared " ++ (byte_text a ++ 10 ∷ [])

-- the address at which an interrupt was recorded, and its mandatory byte
abbrev pub recorded_text : ℕ → Option ℕ → List ℕ
recorded_text a byte = codes " at " ++ (byte_text a ++ (codes " byte " ++ (byte_or_none byte ++ 10 ∷ [])))

-- a record, after its number
abbrev pub record_text : Record → List ℕ
record_text r = codes " slot " ++ (decimal r.slot ++ (codes " raise " ++ (decimal r.number ++ recorded_text r.at r.byte)))

-- the identity and kind of a device, as `show all` prints them
abbrev pub registers_text : Identity → List ℕ
registers_text identity = codes " pid " ++ (hex_text 12 identity.pid ++ (codes " bcr " ++ (byte_text identity.bcr.0 ++ (codes " dcr " ++ byte_text identity.dcr.0))))

-- the enabled ones of interrupts, role requests and joins
abbrev pub kinds_tokens : Bool → Bool → Bool → List ℕ
kinds_tokens false false false = codes "none"
kinds_tokens true false false = codes "interrupt"
kinds_tokens false true false = codes "role"
kinds_tokens false false true = codes "join"
kinds_tokens true true false = codes "interrupt role"
kinds_tokens true false true = codes "interrupt join"
kinds_tokens false true true = codes "role join"
kinds_tokens true true true = codes "interrupt role join"

-- the token of a wish for the role or to join; `show` counts the interrupts that wait
abbrev pub wish_token : Option Request → List ℕ
wish_token None = codes "none"
wish_token (Some Join) = codes "join"
wish_token (Some (Role a)) = codes "role"
wish_token (Some (Interrupt a)) = codes "none"

-- a device by these parts
abbrev pub described_parts : Name → Identity → List ℕ → List ℕ → List ℕ
described_parts name identity kinds wish = codes "device " ++ (letters name ++ (registers_text identity ++ (codes " enabled " ++ (kinds ++ (codes " wishes " ++ (wish ++ 10 ∷ []))))))

-- what a device is
abbrev pub described_text : Description → List ℕ
described_text device = described_parts device.name device.identity (kinds_tokens device.interrupt device.role device.join) (wish_token device.wish)

-- whether the list of devices is current
abbrev pub list_text : Bool → List ℕ
list_text true = codes "list current" ++ 10 ∷ []
list_text false = codes "list stale" ++ 10 ∷ []

-- whether a session is open
abbrev pub session_text : Bool → List ℕ
session_text true = codes "session open" ++ 10 ∷ []
session_text false = codes "session closed" ++ 10 ∷ []

-- the slot of an active controller, and the numbers of its first and its last record
abbrev pub tenure_text : ℕ → ℕ → ℕ → List ℕ
tenure_text slot from to = codes "under slot " ++ (decimal slot ++ (codes " records " ++ (decimal from ++ (codes " to " ++ (decimal to ++ 10 ∷ [])))))

-- a device that entered a slot
abbrev pub entered_text : Name → ℕ → List ℕ
entered_text name slot = letters name ++ number_text (codes " slot ") slot

-- the main controller, with its address
abbrev pub main_text : Name → Option ℕ → List ℕ
main_text name address = letters name ++ (codes " slot 0 at " ++ (byte_or_none address ++ 10 ∷ []))

-- a present device: its name, its address, and how many of its interrupts wait
abbrev pub device_text : Name → Option ℕ → ℕ → List ℕ
device_text name address waiting = letters name ++ (codes " " ++ (byte_or_none address ++ number_text (codes " waiting ") waiting))

-- a legacy target
abbrev pub target_text : Name → ℕ → List ℕ
target_text name a = letters name ++ (codes " " ++ (byte_text a ++ (codes " legacy" ++ 10 ∷ [])))

-- some tokens, and bytes that were read
abbrev pub read_text : List ℕ → List ℕ → List ℕ
read_text tokens bytes = tokens ++ (codes " " ++ (bytes_text bytes ++ 10 ∷ []))

-- what a script prints of each piece
abbrev pub piece_text : Piece → List ℕ
piece_text (Piece.Legacy name a) = added_text name a
piece_text (Piece.Declared a) = declared_text a
piece_text (Piece.Main name address) = main_text name address
piece_text (Piece.Entered name slot) = entered_text name slot
piece_text Piece.Dropped = codes "dropped" ++ 10 ∷ []
piece_text (Piece.Raised number) = number_text (codes "raised ") number
piece_text Piece.Asked = codes "asked" ++ 10 ∷ []
piece_text (Piece.Served served) = served_text served
piece_text Piece.Done = codes "done" ++ 10 ∷ []
piece_text (Piece.Bytes bytes) = read_text (codes "bytes") bytes
piece_text (Piece.Told what bytes) = read_text (datum_name what) bytes
piece_text Piece.Opened = codes "open" ++ 10 ∷ []
piece_text (Piece.Assigned a identity) = assigned_text a identity
piece_text Piece.Nobody = codes "nobody" ++ 10 ∷ []
piece_text Piece.Ended = codes "ended" ++ 10 ∷ []
piece_text (Piece.Active address) = codes "active " ++ (byte_or_none address ++ 10 ∷ [])
piece_text (Piece.Device name address waiting) = device_text name address waiting
piece_text (Piece.Target name a) = target_text name a
piece_text (Piece.Records count) = number_text (codes "records ") count
piece_text (Piece.Entry number r) = codes "record " ++ (decimal number ++ record_text r)
piece_text (Piece.Description device) = described_text device
piece_text (Piece.Listed is_current) = list_text is_current
piece_text (Piece.Session is_open) = session_text is_open
piece_text (Piece.Tenure slot from to) = tenure_text slot from to
piece_text (Piece.FirstSymbol symbol) = text_of symbol
piece_text (Piece.Symbol symbol) = 32 ∷ text_of symbol
piece_text Piece.SymbolsEnd = 10 ∷ []

-- what a script prints of pieces, one after another
abbrev pub pieces_text : List Piece → List ℕ
pieces_text pieces = flat_map piece_text pieces

-- a text behind which a piece is printed
abbrev pub with_piece : List ℕ → Piece → List ℕ
with_piece text piece = text ++ piece_text piece

-- `show`, where so many records have left the log
abbrev pub show_text : {N : Type 0} → NamesKept N → ℕ → State → N → List ℕ
show_text kept forgotten st names = pieces_text (show_pieces kept forgotten st names)

-- records as `show` prints them, counted from this number on
abbrev pub numbered_text : ℕ → List Record → List ℕ
numbered_text number records = pieces_text (numbered_pieces number records)
