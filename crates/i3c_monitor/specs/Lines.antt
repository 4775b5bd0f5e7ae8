-- The lines that are printed.
use Rattle.std.specs.Prelude.{ℕ, ◌-◌, Bool, true, false, List, [], ◌∷◌, ◌++◌, codes, drop, slice_get, take, Option, Some, None}
use Rattle.std.specs.Fmt.{decimal}
use Rattle.i3c_base.specs.declared.datum.Datum.{Datum}
use Rattle.i3c_base.specs.declared.datum.Direction.{Direction}
use Rattle.i3c_base.specs.declared.requests.Request.{Request}
use Rattle.i3c_deftgts.specs.declared.faults.ListFault.{ListFault}
use Rattle.i3c_frame.specs.declared.symbols.Symbol.{Symbol}
use Rattle.i3c_text.specs.Hex.{byte_text, hex_text}
use Rattle.i3c_monitor.specs.declared.decoded.Direct.{Direct}
use Rattle.i3c_monitor.specs.declared.decoded.Fault.{Fault}
use Rattle.i3c_monitor.specs.declared.decoded.Decoded.{Decoded}
use Rattle.i3c_monitor.specs.declared.decoded.Span.{Span}
use Rattle.i3c_wave.specs.declared.captured.FrameMark.{FrameMark}
use Rattle.i3c_wave.specs.Found.{loss_text}

-- the symbols of a span of a trace
abbrev pub symbols_of : Span → List Symbol → List Symbol
symbols_of span trace = take span.count (drop span.before trace)

-- some words and a number
abbrev pub number_text : List ℕ → ℕ → List ℕ
number_text words number = words ++ decimal number

-- some words and a byte
abbrev pub words_text : List ℕ → ℕ → List ℕ
words_text words byte = words ++ byte_text byte

-- a byte after a space, if there is one
abbrev pub byte_after : Option ℕ → List ℕ
byte_after None = []
byte_after (Some byte) = words_text (codes " ") byte

-- the text of a request
abbrev pub request_text : Request → List ℕ
request_text Request.Join = codes "request join"
request_text (Request.Role a) = words_text (codes "request role ") a
request_text (Request.Interrupt a) = words_text (codes "request interrupt ") a

-- the controller's answer to it
abbrev pub verdict_text : Bool → List ℕ
verdict_text true = codes " accepted"
verdict_text false = codes " turned down"

-- whether the address of a round was acknowledged
abbrev pub taken_text : Bool → List ℕ
taken_text true = codes " taken"
taken_text false = codes " not taken"

-- a command to single targets
abbrev pub command_text : Direct → List ℕ
command_text Direct.Enec = codes "ENEC "
command_text Direct.Disec = codes "DISEC "
command_text Direct.Setdasa = codes "SETDASA "
command_text Direct.Setnewda = codes "SETNEWDA "
command_text Direct.Getacccr = codes "GETACCCR "

-- the byte behind a header of a single command, unless nobody answered
abbrev pub answer_text : Option ℕ → List ℕ
answer_text None = codes " no answer"
answer_text (Some byte) = words_text (codes " ") byte

-- a code that asks for a datum
abbrev pub datum_name : Datum → List ℕ
datum_name Datum.Pid = codes "GETPID "
datum_name Datum.Bcr = codes "GETBCR "
datum_name Datum.Dcr = codes "GETDCR "
datum_name Datum.Status = codes "GETSTATUS "
datum_name Datum.WriteLength = codes "GETMWL "
datum_name Datum.ReadLength = codes "GETMRL "
datum_name Datum.Speed = codes "GETMXDS "
datum_name Datum.Capabilities = codes "GETCAPS "

-- a code that sets a maximum length
abbrev pub length_name : Direction → List ℕ
length_name Direction.Write = codes "SETMWL "
length_name Direction.Read = codes "SETMRL "

-- the two bytes of a length behind a header, unless nobody answered
abbrev pub length_text : Option (ℕ × ℕ) → List ℕ
length_text None = codes " no answer"
length_text (Some bytes) = words_text (codes " ") bytes.0 ++ words_text (codes " ") bytes.1

-- the direction of a transfer
abbrev pub transfer_text : Bool → List ℕ
transfer_text true = codes "read "
transfer_text false = codes "write "

-- the byte of a word, with a T bit or of a legacy target
abbrev pub byte_of : Symbol → Option ℕ
byte_of (Symbol.Word word) = Some word.byte
byte_of (Symbol.LegacyWord byte ack) = Some byte
byte_of _ = None

-- the bytes of the words among symbols, each after a space
abbrev pub data_text : List Symbol → List ℕ
data_text [] = []
data_text (symbol ∷ rest) = byte_after (byte_of symbol) ++ data_text rest

-- the bytes behind a header, unless nobody answered
abbrev pub bytes_text : Option Span → List Symbol → List ℕ
bytes_text None trace = codes " no answer"
bytes_text (Some span) trace = data_text (symbols_of span trace)

-- the text of a fault
abbrev pub fault_text : Fault → List ℕ
fault_text (Fault.Parity number) = number_text (codes "Parity ") number
fault_text (Fault.Truncated number) = number_text (codes "Truncated ") number
fault_text (Fault.List (ListFault.Parity number)) = number_text (codes "Parity ") number
fault_text (Fault.List ListFault.Truncated) = codes "Truncated"
fault_text (Fault.List ListFault.Count) = codes "Count"
fault_text (Fault.List (ListFault.Address number)) = number_text (codes "Address ") number
fault_text (Fault.List ListFault.Twice) = codes "Twice"

-- what is told of a frame behind its number: its time, or why it can't be read
abbrev pub mark_text : FrameMark → List ℕ
mark_text FrameMark.Bare = []
mark_text (FrameMark.At time) = number_text (codes " at ") time
mark_text (FrameMark.Lost loss) = loss_text loss

-- the same, if it has a mark
abbrev pub marked_text : Option FrameMark → List ℕ
marked_text None = []
marked_text (Some mark) = mark_text mark

-- a frame, and its mark
abbrev pub frame_text : List FrameMark → ℕ → List ℕ
frame_text marks number = number_text (codes "frame ") number ++ marked_text (slice_get marks (number - 1))

-- what is decoded, of this trace, whose frames have these marks
abbrev pub decoded_text : List Symbol → List FrameMark → Decoded → List ℕ
decoded_text trace marks (Decoded.FrameStart number) = frame_text marks number
decoded_text trace marks (Decoded.Request request accepted byte) = request_text request ++ (verdict_text accepted ++ byte_after byte)
decoded_text trace marks (Decoded.Enec kinds) = words_text (codes "ENEC ") kinds
decoded_text trace marks (Decoded.Disec kinds) = words_text (codes "DISEC ") kinds
decoded_text trace marks Decoded.Rstdaa = codes "RSTDAA"
decoded_text trace marks Decoded.Entdaa = codes "ENTDAA"
decoded_text trace marks (Decoded.Deftgts count) = number_text (codes "DEFTGTS ") count ++ codes " entries"
decoded_text trace marks (Decoded.Other byte) = words_text (codes "Other ") byte
decoded_text trace marks (Decoded.Round identity byte taken) = codes "round " ++ (hex_text 16 identity ++ (words_text (codes " ") byte ++ taken_text taken))
decoded_text trace marks Decoded.RoundsDone = codes "round done"
decoded_text trace marks (Decoded.Single command address byte) = words_text (command_text command) address ++ answer_text byte
decoded_text trace marks (Decoded.SetLength way bytes) = words_text (length_name way) bytes.0 ++ words_text (codes " ") bytes.1
decoded_text trace marks (Decoded.SetLengthDirect way address bytes) = words_text (length_name way) address ++ length_text bytes
decoded_text trace marks (Decoded.Get what address span) = words_text (datum_name what) address ++ bytes_text span trace
decoded_text trace marks (Decoded.Transfer address read span) = words_text (transfer_text read) address ++ bytes_text span trace
decoded_text trace marks (Decoded.Refused fault) = codes "refused " ++ fault_text fault

-- the line that a decoded part prints
abbrev pub line_text : List Symbol → List FrameMark → Decoded → List ℕ
line_text trace marks decoded = decoded_text trace marks decoded ++ 10 ∷ []
