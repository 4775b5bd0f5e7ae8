-- What the symbols of a trace tell, where `codes` are the codes that are known by name.
use Rattle.std.specs.Prelude.{ℕ, zero, suc, ◌+◌, Bool, true, false, List, [], ◌∷◌, ◌++◌, Option, Some, None, Result, Ok, Err}
use Rattle.std.specs.List.{before_first, position_or_len}
use Rattle.std.specs.Option.{option_to_list}
use Rattle.i3c_ccc.specs.declared.codes.CodeSet.{CodeSet}
use Rattle.i3c_frame.specs.declared.symbols.Symbol.{Symbol}
use Rattle.i3c_monitor.specs.declared.header.Header.{Header}
use Rattle.i3c_monitor.specs.declared.header.Mode.{Mode}
use Rattle.i3c_monitor.specs.declared.header.Told.{Told}
use Rattle.i3c_monitor.specs.declared.monitor.Monitor.{Monitor}
use Rattle.i3c_monitor.specs.declared.decoded.Fault.{Fault}
use Rattle.i3c_monitor.specs.declared.decoded.Decoded.{Decoded}
use Rattle.i3c_monitor.specs.Told.{told}

-- the symbol as a header, if it is one
abbrev pub header_in : Symbol → Option Header
header_in (Symbol.Header address read ack) = Some (record { address = address; read = read; ack = ack })
header_in _ = None

-- a symbol ends the symbols behind a header
abbrev pub ends : Symbol → Bool
ends Symbol.Start = true
ends Symbol.Repeated = true
ends Symbol.Stop = true
ends _ = false

-- the number of symbols behind a header: those up to the next START, repeated START or STOP
abbrev pub count_behind : List Symbol → ℕ
count_behind symbols = position_or_len ends symbols

-- the symbols behind a header
abbrev pub behind : List Symbol → List Symbol
behind symbols = before_first ends symbols

-- after what a header tells the rest is told, but after a fault nothing is
abbrev pub and_on : Result Told Fault → (Mode → List Decoded) → List Decoded
and_on (Ok told) rest = option_to_list told.decoded ++ rest told.mode
and_on (Err fault) rest = Decoded.Refused fault ∷ []

-- what the rest of a trace tells; its first `skip` symbols are behind a header that was told. `frames` and `before` count the
-- frames and symbols before it
abbrev pub rest_told : CodeSet → Mode → ℕ → ℕ → ℕ → List Symbol → List Decoded
rest_told codes mode frames before skip [] = []
rest_told codes mode frames before (suc skip) (symbol ∷ rest) = rest_told codes mode frames (before + 1) skip rest
rest_told codes mode frames before zero (Symbol.Start ∷ rest) =
    Decoded.FrameStart (frames + 1) ∷ rest_told codes Mode.First (frames + 1) (before + 1) zero rest
rest_told codes mode frames before zero (Symbol.Header address read ack ∷ rest) =
    and_on (told codes mode (record { address = address; read = read; ack = ack }) (behind rest) (before + 1))
    (λ next. rest_told codes next frames (before + 1) (count_behind rest) rest)
rest_told codes mode frames before zero (symbol ∷ rest) = rest_told codes mode frames (before + 1) zero rest

-- what all symbols of a trace tell
abbrev pub trace_told : CodeSet → List Symbol → List Decoded
trace_told codes symbols = rest_told codes Mode.Skipped 0 0 0 symbols

-- what a monitor is still to tell
abbrev pub to_come : Monitor → List Decoded
to_come monitor = rest_told monitor.codes monitor.mode monitor.frames monitor.before 0 monitor.rest.now

-- the same of a monitor that has just taken this header
abbrev pub header_told : Monitor → Header → List Decoded
header_told monitor header =
    let rest = monitor.rest.now in
    and_on (told monitor.codes monitor.mode header (behind rest) monitor.before)
    (λ next. rest_told monitor.codes next monitor.frames monitor.before (count_behind rest) rest)
