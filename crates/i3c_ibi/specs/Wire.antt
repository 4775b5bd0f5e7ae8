-- The symbols of a served request.
use Rattle.std.specs.Prelude.{ℕ, Bool, true, false, List, [], ◌∷◌, ◌++◌, Option, Some, None}
use Rattle.i3c_base.specs.declared.requests.Request.{Request}
use Rattle.i3c_base.specs.declared.requests.Request.TheVariants.{Join, Role, Interrupt}
use Rattle.i3c_header.specs.Keys.{address_of, is_read}
use Rattle.i3c_frame.specs.declared.symbols.Symbol.{Symbol}
use Rattle.i3c_frame.specs.declared.symbols.Symbol.TheVariants.{Start, Header}
use Rattle.i3c_ibi.specs.declared.serving.Reading.{Reading}
use Rattle.i3c_ibi.specs.declared.serving.Reading.TheVariants.{Quiet, Refused, Joined, WantsRole, Due, Torn}

-- the header of a request, with the controller's answer
abbrev pub request_header : Request → Bool → Symbol
request_header r ack = Header (address_of r) (is_read r) ack

-- the mandatory byte as it was read, with T 0, if there was one
abbrev pub byte_word : Option ℕ → List Symbol
byte_word None = []
byte_word (Some byte) = Symbol.Word (record { byte = byte; t = false }) ∷ []

-- the symbols of a frame's beginning, where `ack` answers a broadcast header
abbrev pub begun : Reading → Bool → List Symbol
begun Quiet ack = Start ∷ Header 0x7E false ack ∷ []
begun (Refused r) ack = Start ∷ request_header r false ∷ []
begun Joined ack = Start ∷ request_header Join true ∷ []
begun (WantsRole a) ack = Start ∷ request_header (Role a) true ∷ []
begun (Due r) ack = (Start ∷ request_header (Interrupt r.at) true ∷ []) ++ byte_word r.byte
begun (Torn a byte) ack = Start ∷ request_header (Interrupt a) true ∷ Symbol.Word (record { byte = byte; t = true }) ∷ []
