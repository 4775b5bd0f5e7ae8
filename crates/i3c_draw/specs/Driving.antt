-- The driver of SDA during a symbol.
use Rattle.std.specs.Prelude.{ℕ, ◌==◌, Bool, true, false, not, ◌&&◌, Option, Some, None, if◌then◌else◌}
use Rattle.i3c_frame.specs.declared.symbols.Symbol.{Symbol}
use Rattle.i3c_frame.specs.declared.symbols.Symbol.TheVariants.{Start, Header, Word, Identity, AddressByte, LegacyWord}
use Rattle.i3c_draw.specs.declared.driver.Driver.{Driver}
use Rattle.i3c_draw.specs.declared.driver.Driver.TheVariants.{Controller, Target, Both, Nobody}
use Rattle.i3c_draw.specs.declared.driver.Turn.{Turn}

-- an arbitrable header with another address than 7E has the request of a target, which won it
abbrev pub is_request : Turn → ℕ → Bool
is_request turn address = turn.arbitrable && not (address == 126)

-- the sender of words behind a header: a target where they are read
abbrev pub sender : Turn → Driver
sender turn = if turn.reading then Target else Controller

-- the hearer of these words
abbrev pub hearer : Turn → Driver
hearer turn = if turn.reading then Controller else Target

-- the driver of the bits of a symbol before its answer, or of all of them if it has none: for a request the controller and
-- the target that wins
abbrev pub bits_by : Turn → Symbol → Driver
bits_by turn (Header address read ack) = if is_request turn address then Both else Controller
bits_by turn (Word word) = sender turn
bits_by turn (LegacyWord byte ack) = sender turn
bits_by turn (Identity number) = Target
bits_by turn symbol = Controller

-- an answer: an ACK is driven, and a NACK is not
abbrev pub answered_by : Driver → Bool → Driver
answered_by driver true = driver
answered_by driver false = Nobody

-- the driver of the answer of a symbol, if it has one: the controller answers a request
abbrev pub answer_by : Turn → Symbol → Option Driver
answer_by turn (Header address read ack) = Some (answered_by (if is_request turn address then Controller else Target) ack)
answer_by turn (AddressByte byte ack) = Some (answered_by Target ack)
answer_by turn (LegacyWord byte ack) = Some (answered_by (hearer turn) ack)
answer_by turn symbol = None

-- the turn after a symbol: the header behind a START is arbitrable, and each header says which way words go
abbrev pub next_turn : Turn → Symbol → Turn
next_turn turn Start = record turn { arbitrable = true }
next_turn turn (Header address read ack) = record { arbitrable = false; reading = read }
next_turn turn symbol = turn
