-- The result of reading a capture: the values of the lines that last, the symbols that are read of them, and the frames that
-- can't be read.
use Rattle.std.specs.Prelude.{◌≡◌, ℕ, ◌-◌, nat_lt, Bool, true, false, Option, Some, None, if◌then◌else◌}
use Rattle.i3c_base.specs.declared.addresses.Addresses.{Addresses}
use Rattle.i3c_frame.specs.declared.symbols.Symbol.{Symbol}
use Rattle.i3c_wave.specs.declared.capture.Capture.{Capture}
use Rattle.i3c_wave.specs.declared.capture.CaptureEvent.{CaptureEvent}
use Rattle.i3c_wave.specs.declared.capture.Lines.{Lines}
use Rattle.i3c_wave.specs.declared.capture.Value.{Value}
use Rattle.i3c_wave.specs.declared.edges.Edges.{Edges}
use Rattle.i3c_wave.specs.declared.edges.Mark.{Mark}
use Rattle.i3c_wave.specs.declared.levels.Level.{Level}
use Rattle.i3c_wave.specs.declared.reader.Reading.{Reading}
use Rattle.i3c_wave.specs.Edges.{edges_after, mark_at}
use Rattle.i3c_wave.specs.Reading.{awaiting, is_in_frame, turn}

-- a capture after a change, and the event that is whole by it
pub record Heard : Type 0 where
  pub capture : Capture
  pub event : Option CaptureEvent

-- a call has the result of this hearing
abbrev pub Hears : Heard → Capture → Option CaptureEvent → Type 0
Hears heard capture event = heard ≡ record { capture = capture; event = event }

-- a capture before the first change: a line without a value is high
abbrev pub new_capture : Addresses → Capture
new_capture legacies = record { time = 0; since = 0; lines = record { scl = Value.High; sda = Value.High }; edges = None; reader = awaiting legacies None; started = false }

-- the capture at a time that isn't before its own
abbrev pub at_time : Capture → ℕ → Option Capture
at_time capture time = if nat_lt time capture.time then None else Some (record capture { time = time })

-- a value, or the one that is given anew
abbrev pub new_value : Value → Option Value → Value
new_value old None = old
new_value old (Some value) = value

-- the values of the lines, some of which are given anew
abbrev pub with_values : Lines → Option Value → Option Value → Lines
with_values lines scl sda = record { scl = new_value lines.scl scl; sda = new_value lines.sda sda }

-- two values are equal
abbrev pub is_same_value : Value → Value → Bool
is_same_value Value.Low Value.Low = true
is_same_value Value.High Value.High = true
is_same_value Value.Unknown Value.Unknown = true
is_same_value one other = false

-- both lines have equal values
abbrev pub is_same_lines : Lines → Lines → Bool
is_same_lines one other = if is_same_value one.scl other.scl then is_same_value one.sda other.sda else false

-- a value is high, or low, or no level
abbrev pub bit_of : Value → Option Bool
bit_of Value.Low = Some false
bit_of Value.High = Some true
bit_of Value.Unknown = None

-- the level of the lines, if both have one
abbrev pub level_at : Option Bool → Option Bool → Option Level
level_at (Some scl) (Some sda) = Some (record { scl = scl; sda = sda })
level_at scl sda = None

abbrev pub level_of : Lines → Option Level
level_of lines = level_at (bit_of lines.scl) (bit_of lines.sda)

-- a hearing without an event
abbrev pub quiet : Capture → Heard
quiet capture = record { capture = capture; event = None }

-- a symbol is whole where the level begins that ends it
abbrev pub begins : Capture → Symbol → Heard
begins capture symbol = record { capture = record capture { started = true }; event = Some (CaptureEvent.Symbol (record { symbol = symbol; time = capture.since })) }

-- no symbol ends where a level begins: nothing more is told up to the next START
abbrev pub misread : Capture → Heard
misread capture = record { capture = record capture { started = false }; event = Some (CaptureEvent.Misread capture.since) }

-- what a reading makes of a capture: up to the next START behind what can't be read, and up to the first, nothing is told
abbrev pub read_as : Capture → Reading → Heard
read_as capture Reading.Partial = quiet capture
read_as capture (Reading.Symbol symbol) = begins capture symbol
read_as capture Reading.Misread = if capture.started then misread capture else quiet capture

-- what is read of a mark
abbrev pub mark_read : Capture → Mark → Heard
mark_read capture mark = read_as (record capture { reader = (turn capture.reader mark).reader }) (turn capture.reader mark).reading

-- a watcher of the lines begins
abbrev pub first_heard : Capture → Edges → Capture
first_heard capture edges = record capture { edges = Some edges }

-- what is read of a mark that is heard, if one is
abbrev pub read_if : Capture → Option Mark → Heard
read_if capture None = quiet capture
read_if capture (Some mark) = mark_read capture mark

-- what a watcher of the lines hears of their level
abbrev pub watched : Capture → Edges → Level → Heard
watched capture edges level = read_if (first_heard capture (edges_after edges level)) (mark_at edges level)

-- what is heard of a level: the first one is where the lines are watched from
abbrev pub heard_by : Capture → Option Edges → Level → Heard
heard_by capture None level = quiet (first_heard capture (record { level = level; bit = None }))
heard_by capture (Some edges) level = watched capture edges level

abbrev pub level_heard : Capture → Level → Heard
level_heard capture level = heard_by capture capture.edges level

-- a line loses its level inside a frame, which can't be read then, or outside one
abbrev pub lost_at : Bool → ℕ → CaptureEvent
lost_at true time = CaptureEvent.Cut time
lost_at false time = CaptureEvent.Gap time

-- a line has no level: the lines are watched anew from their next one on, and frames are read from the next START on
abbrev pub unlevelled : Capture → Heard
unlevelled capture = record {
  capture = record capture { edges = None; reader = awaiting capture.reader.legacies None; started = false };
  event = Some (lost_at (is_in_frame capture.reader.place) capture.since);
}

-- what is heard of the values so far
abbrev pub heard_of : Capture → Option Level → Heard
heard_of capture None = unlevelled capture
heard_of capture (Some level) = level_heard capture level

abbrev pub heard : Capture → Heard
heard capture = heard_of capture (level_of capture.lines)

-- values that lasted for less than a setup time are left out
abbrev pub settled : ℕ → Capture → Heard
settled setup capture = if nat_lt (capture.time - capture.since) setup then quiet capture else heard capture

-- the lines come to values now
abbrev pub come_to : Heard → Lines → Heard
come_to heard lines = record heard { capture = record heard.capture { lines = lines; since = heard.capture.time } }

-- the lines have these values from now on
abbrev pub changed : ℕ → Capture → Lines → Heard
changed setup capture lines = if is_same_lines capture.lines lines then quiet capture else come_to (settled setup capture) lines
