-- The frames that are found in a capture: those that are read, and in place of each other one a START and a STOP alone.
use Rattle.std.specs.Prelude.{◌≡◌, ℕ, List, [], ◌∷◌, ◌++◌, length, take, ⊤, Option, Some, None, Result, MatchResult, codes}
use Rattle.i3c_frame.specs.declared.symbols.Symbol.{Symbol}
use Rattle.i3c_wave.specs.declared.capture.CaptureEvent.{CaptureEvent}
use Rattle.i3c_wave.specs.declared.capture_fault.CaptureFault.{CaptureFault}
use Rattle.i3c_wave.specs.declared.captured.Captured.{Captured}
use Rattle.i3c_wave.specs.declared.captured.FrameMark.{FrameMark}
use Rattle.i3c_wave.specs.declared.captured.Loss.{Loss}
use Rattle.i3c_wave.specs.declared.captured.Unread.{Unread}
use Rattle.i3c_wave.specs.declared.timescale.Instant.{Instant}
use Rattle.i3c_wave.specs.declared.timescale.Timescale.{Timescale}
use Rattle.i3c_wave.specs.Timescales.{instant_text}

pub record Found : Type 0 where
  pub symbols : List Symbol
  -- a mark for each frame that ended
  pub marks : List FrameMark
  -- the first time at which a line had no level
  pub gap : Option Instant
  -- the number of symbols of frames that ended
  pub whole : ℕ
  -- when the open frame began
  pub begun : ℕ

-- nothing yet
abbrev pub nothing_found : Found
nothing_found = record { symbols = []; marks = []; gap = None; whole = 0; begun = 0 }

-- what a call has found
abbrev pub found_in : Captured → Found
found_in captured = record { symbols = captured.symbols.items; marks = captured.marks.items; gap = captured.gap; whole = captured.whole; begun = captured.begun }

-- another symbol
abbrev pub with_next : Found → Symbol → Found
with_next found symbol = record found { symbols = found.symbols ++ symbol ∷ [] }

-- the open frame has ended, and has this mark
abbrev pub marked : Found → FrameMark → Found
marked found mark = record found { marks = found.marks ++ mark ∷ []; whole = length found.symbols }

-- a STOP ends the open frame
abbrev pub ended : Found → FrameMark → Found
ended found mark = marked (with_next found Symbol.Stop) mark

-- a symbol at its time
abbrev pub with_symbol : Found → Symbol → ℕ → Found
with_symbol found Symbol.Start time = with_next (record found { begun = time }) Symbol.Start
with_symbol found Symbol.Stop time = ended found (FrameMark.At found.begun)
with_symbol found symbol time = with_next found symbol

-- a frame can't be read: in place of its symbols there are a START and a STOP
abbrev pub with_loss : Found → Loss → Found
with_loss found loss = ended (with_next (record found { symbols = take found.whole found.symbols }) Symbol.Start) (FrameMark.Lost loss)

-- the first time counts
abbrev pub first_time : Option Instant → Instant → Option Instant
first_time None time = Some time
first_time (Some first) time = Some first

-- a line has no level
abbrev pub with_gap : Found → Instant → Found
with_gap found time = record found { gap = first_time found.gap time }

-- an event, whose time is counted in this timescale
abbrev pub with_event : Timescale → Found → CaptureEvent → Found
with_event scale found (CaptureEvent.Symbol stamped) = with_symbol found stamped.symbol stamped.time
with_event scale found (CaptureEvent.Misread time) = with_loss found (record { why = Unread.NoSymbol; at = record { time = time; scale = scale } })
with_event scale found (CaptureEvent.Cut time) =
    with_gap (with_loss found (record { why = Unread.NoLevel; at = record { time = time; scale = scale } })) (record { time = time; scale = scale })
with_event scale found (CaptureEvent.Gap time) = with_gap found (record { time = time; scale = scale })

-- an event, if there is one
abbrev pub with_any : Timescale → Found → Option CaptureEvent → Found
with_any scale found None = found
with_any scale found (Some event) = with_event scale found event

-- a call finds this, or memory is short
abbrev pub Finds : Found → Captured → Result ⊤ CaptureFault → Type 0
Finds found captured result = MatchResult result (λ _. found ≡ found_in captured) (λ fault. fault ≡ CaptureFault.Memory)

-- why a frame can't be read
abbrev pub unread_text : Unread → List ℕ
unread_text Unread.NoSymbol = codes ": no symbol ends at "
unread_text Unread.NoLevel = codes ": a line has no level at "

-- what is told of a frame that can't be read, behind its number
abbrev pub loss_text : Loss → List ℕ
loss_text loss = unread_text loss.why ++ instant_text loss.at

-- a mark without its time
abbrev pub without_time : FrameMark → FrameMark
without_time (FrameMark.At time) = FrameMark.Bare
without_time mark = mark
