-- What a header and the symbols behind it tell, by the frame's mode, where `codes` are the codes that are known by name.
use Rattle.std.specs.Prelude.{ℕ, ◌+◌, Bool, true, false, ◌==◌, ◌&&◌, not, List, [], ◌∷◌, length, Option, Some, None, Result, Ok, Err, if◌then◌else◌}
use Rattle.i3c_base.specs.declared.datum.Datum.{Datum}
use Rattle.i3c_base.specs.declared.datum.Direction.{Direction}
use Rattle.i3c_base.specs.declared.requests.Request.{Request}
use Rattle.i3c_ccc.specs.declared.codes.Code.{Code}
use Rattle.i3c_ccc.specs.declared.codes.CodeSet.{CodeSet}
use Rattle.i3c_ccc.specs.Codes.{code_among, codes_of}
use Rattle.i3c_frame.specs.declared.symbols.Symbol.{Symbol}
use Rattle.i3c_monitor.specs.declared.header.Header.{Header}
use Rattle.i3c_monitor.specs.declared.header.Mode.{Mode}
use Rattle.i3c_monitor.specs.declared.header.Told.{Told}
use Rattle.i3c_monitor.specs.declared.decoded.Direct.{Direct}
use Rattle.i3c_monitor.specs.declared.decoded.Fault.{Fault}
use Rattle.i3c_monitor.specs.declared.decoded.Decoded.{Decoded}
use Rattle.i3c_monitor.specs.declared.decoded.Span.{Span}
use Rattle.i3c_monitor.specs.Due.{due_word, entries_told, go_on, written_byte, written_length}

-- nothing is told, and the frame has this mode
abbrev pub nothing : Mode → Told
nothing mode = record { decoded = None; mode = mode }

-- this is told, and the frame has this mode
abbrev pub one : Mode → Decoded → Result Told Fault
one mode decoded = Ok (record { decoded = Some decoded; mode = mode })

-- the request that a frame's first header is
abbrev pub request_at : ℕ → Bool → Request
request_at a true = Request.Interrupt a
request_at a false = if a == 0x02 then Request.Join else Request.Role a

-- the byte of a word that follows at once
abbrev pub next_byte : List Symbol → Option ℕ
next_byte (Symbol.Word word ∷ rest) = Some word.byte
next_byte _ = None

-- a frame's first header: the byte behind it is an interrupt's that was accepted
abbrev pub request_of : Header → List Symbol → Decoded
request_of header symbols =
    Decoded.Request (request_at header.address header.read) header.ack (if header.read && header.ack then next_byte symbols else None)

-- the `count` symbols behind a header, unless nobody answered
abbrev pub span_of : Header → ℕ → ℕ → Option Span
span_of header count before = if header.ack then Some (record { before = before; count = count }) else None

-- a private transfer of `count` symbols
abbrev pub transfer_of : Header → ℕ → ℕ → Decoded
transfer_of header count before = Decoded.Transfer header.address header.read (span_of header count before)

-- a header of a code that asks for a datum, with `count` symbols behind it: it may have either direction, and a datum any
-- length
abbrev pub get_of : Datum → Header → ℕ → ℕ → Decoded
get_of what header count before = Decoded.Get what header.address (span_of header count before)

-- a header of a command that sets a maximum length
abbrev pub length_of : Direction → Header → List Symbol → ℕ → Result Decoded Fault
length_of way header symbols before =
    if header.ack then go_on (written_length symbols before) (λ bytes. Ok (Decoded.SetLengthDirect way header.address (Some bytes)))
    else Ok (Decoded.SetLengthDirect way header.address None)

-- the byte behind a header of a command to single targets: of one that a target sent, T doesn't count
abbrev pub single_byte : Direct → List Symbol → ℕ → Result ℕ Fault
single_byte Direct.Enec symbols before = written_byte symbols before
single_byte Direct.Disec symbols before = written_byte symbols before
single_byte Direct.Setdasa symbols before = written_byte symbols before
single_byte Direct.Setnewda symbols before = written_byte symbols before
single_byte Direct.Getacccr symbols before = go_on (due_word symbols before) (λ word. Ok word.byte)

-- a header of this direct command
abbrev pub single_of : Direct → Header → List Symbol → ℕ → Result Decoded Fault
single_of command header symbols before =
    if header.ack then go_on (single_byte command symbols before) (λ byte. Ok (Decoded.Single command header.address (Some byte)))
    else Ok (Decoded.Single command header.address None)

-- a round that somebody takes part in
abbrev pub round_in : List Symbol → ℕ → Result Decoded Fault
round_in (Symbol.Identity identity ∷ Symbol.AddressByte byte ack ∷ rest) before = Ok (Decoded.Round identity byte ack)
round_in (Symbol.Identity identity ∷ rest) before = Err (Fault.Truncated (before + 2))
round_in _ before = Err (Fault.Truncated (before + 1))

-- the round behind a header
abbrev pub round_of : Header → List Symbol → ℕ → Result Decoded Fault
round_of header symbols before = if header.ack then round_in symbols before else Ok Decoded.RoundsDone

-- a command with this code, by the symbols behind it
abbrev pub command_of : Code → List Symbol → ℕ → Result Told Fault
command_of Code.Enec symbols before = go_on (written_byte symbols before) (λ kinds. one Mode.Plain (Decoded.Enec kinds))
command_of Code.Disec symbols before = go_on (written_byte symbols before) (λ kinds. one Mode.Plain (Decoded.Disec kinds))
command_of Code.Rstdaa symbols before = one Mode.Plain Decoded.Rstdaa
command_of Code.Entdaa symbols before = one Mode.Rounds Decoded.Entdaa
command_of Code.Deftgts symbols before = go_on (entries_told symbols before) (λ count. one Mode.Plain (Decoded.Deftgts count))
command_of (Code.SetLength way) symbols before = go_on (written_length symbols before) (λ bytes. one Mode.Plain (Decoded.SetLength way bytes))
command_of Code.EnecDirect symbols before = Ok (nothing (Mode.Single Direct.Enec))
command_of Code.DisecDirect symbols before = Ok (nothing (Mode.Single Direct.Disec))
command_of Code.Setdasa symbols before = Ok (nothing (Mode.Single Direct.Setdasa))
command_of Code.Setnewda symbols before = Ok (nothing (Mode.Single Direct.Setnewda))
command_of Code.Getacccr symbols before = Ok (nothing (Mode.Single Direct.Getacccr))
command_of (Code.SetLengthDirect way) symbols before = Ok (nothing (Mode.Length way))
command_of (Code.Get what) symbols before = Ok (nothing (Mode.Get what))
command_of (Code.Other byte) symbols before = one Mode.Skipped (Decoded.Other byte)

-- the command behind `7E`/W
abbrev pub code_of : CodeSet → List Symbol → ℕ → Result Told Fault
code_of codes [] before = Ok (nothing Mode.Plain)
code_of codes (symbol ∷ rest) before =
    go_on (written_byte (symbol ∷ rest) before) (λ byte. command_of (code_among (codes_of codes) byte) rest (before + 1))

-- a header that heads no command
abbrev pub other_told : Mode → Header → List Symbol → ℕ → Result Told Fault
other_told Mode.First header symbols before = one Mode.Plain (request_of header symbols)
other_told Mode.Plain header symbols before = one Mode.Plain (transfer_of header (length symbols) before)
other_told (Mode.Single command) header symbols before = go_on (single_of command header symbols before) (one (Mode.Single command))
other_told (Mode.Length way) header symbols before = go_on (length_of way header symbols before) (one (Mode.Length way))
other_told (Mode.Get what) header symbols before = one (Mode.Get what) (get_of what header (length symbols) before)
other_told Mode.Rounds header symbols before =
    if header.address == 0x7E then go_on (round_of header symbols before) (one Mode.Rounds)
    else one Mode.Rounds (transfer_of header (length symbols) before)
other_told Mode.Skipped header symbols before = Ok (nothing Mode.Skipped)

-- what a header tells: 7E/W heads a command, unless the rest of the frame is skipped
abbrev pub told : CodeSet → Mode → Header → List Symbol → ℕ → Result Told Fault
told codes Mode.Skipped header symbols before = Ok (nothing Mode.Skipped)
told codes mode header symbols before =
    if (header.address == 0x7E) && not header.read then code_of codes symbols before
    else other_told mode header symbols before
