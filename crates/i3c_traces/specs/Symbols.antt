-- The lines that symbols come to which are no text's, as those of a capture.
use Rattle.std.specs.Prelude.{◌≡◌, ℕ, ◌+◌, ◌-◌, ◌<◌, ◌≤◌, List, [], ◌∷◌, count_by, length, min, option_copied, slice_get, Option, Some, None, Result, Ok, Err}
use Rattle.i3c_base.specs.declared.addresses.Addresses.{Addresses}
use Rattle.i3c_ccc.specs.declared.codes.CodeSet.{CodeSet}
use Rattle.i3c_frame.specs.declared.frames.Break.{Break}
use Rattle.i3c_frame.specs.declared.frames.Due.{Due}
use Rattle.i3c_frame.specs.declared.frames.Frames.{Frames}
use Rattle.i3c_frame.specs.declared.symbols.Symbol.{Symbol}
use Rattle.i3c_frame.specs.declared.traces.TraceFault.{TraceFault}
use Rattle.i3c_frame.specs.Frames.{begins_frame, whole_frames}
use Rattle.i3c_frame.specs.Texts.{text_of}
use Rattle.i3c_monitor.specs.Trace.{trace_told}
use Rattle.i3c_wave.specs.declared.captured.FrameMark.{FrameMark}
use Rattle.i3c_streams.specs.declared.faults.ScriptFault.{ScriptFault}
use Rattle.i3c_streams.specs.declared.reading.TheConstants.{MOST_BYTES}
use Rattle.i3c_streams.specs.declared.tally.Tally.{Tally}
use Rattle.i3c_traces.specs.Linted.{AreLinted}
use Rattle.i3c_traces.specs.Traces.{Goes, fault_line, refused_in, trace_text}

-- the number of bytes of the symbols' texts, each on a line
abbrev pub text_size : List Symbol → ℕ
text_size [] = 0
text_size (symbol ∷ rest) = length (text_of symbol) + 1 + text_size rest

-- the symbol expected behind the last one, where the frame isn't ended
abbrev pub due_after : Option Symbol → Option Due
due_after None = None
due_after (Some Symbol.Stop) = None
due_after (Some Symbol.Start) = Some Due.Header
due_after (Some Symbol.Repeated) = Some Due.Header
due_after (Some symbol) = Some Due.Stop

-- the place behind symbols, where another is expected
abbrev pub break_at : List Symbol → Option Due → Option Break
break_at symbols None = None
break_at symbols (Some due) = Some (record { frame = count_by begins_frame symbols; symbol = length symbols + 1; part = None; due = due })

-- the whole frames of symbols, and where the last one isn't ended
pub record AreFrames (symbols : List Symbol) (frames : Frames) : Type 0 where
  pub whole : frames.symbols.items ≡ whole_frames symbols
  pub broken : frames.broken ≡ break_at symbols (due_after (slice_get symbols (length symbols - 1)))

-- symbols have these frames, or their text would be longer than a trace may be
abbrev pub HaveFrames : List Symbol → Result Frames ScriptFault → Type 0
HaveFrames symbols (Ok frames) = AreFrames symbols frames × (text_size symbols ≤ MOST_BYTES)
HaveFrames symbols (Err fault) = (fault ≡ ScriptFault.TooLarge) × (MOST_BYTES < text_size symbols)

-- the fault of a trace that stops being one where this symbol is expected
abbrev pub fault_at : ℕ → Option (List ℕ) → Due → TraceFault
fault_at symbol part Due.Symbol = TraceFault.BadSymbol symbol
fault_at symbol (Some text) Due.Header = TraceFault.BadSymbol symbol
fault_at symbol None Due.Header = TraceFault.NoStop
fault_at symbol part Due.Start = TraceFault.NoStart
fault_at symbol part Due.Stop = TraceFault.NoStop

-- the fault of a break
abbrev pub fault_of : Break → TraceFault
fault_of broken = fault_at broken.symbol (option_copied broken.part) broken.due

-- the symbols of a trace give these lines, and this number of refusals; or its break gives the line of its fault
abbrev pub AreTold : CodeSet → List Symbol → Option Break → List FrameMark → List ℕ → ℕ → Type 0
AreTold codes symbols None marks lines refused = (lines ≡ trace_text codes symbols marks) × (refused ≡ min (refused_in marks (trace_told codes symbols)) 18446744073709551615)
AreTold codes symbols (Some broken) marks lines refused = (lines ≡ fault_line (fault_of broken)) × (refused ≡ 1)

-- frames that have these marks give these lines, with faults, given the addresses of legacy targets, or without
abbrev pub AreToldAs : CodeSet → Option Addresses → Frames → List FrameMark → List ℕ → ℕ → Type 0
AreToldAs codes None frames marks lines refused = AreTold codes frames.symbols.items frames.broken marks lines refused
AreToldAs codes (Some legacies) frames marks lines refused = AreLinted legacies.0 frames marks lines refused

-- what goes out of them
abbrev pub FramesGo : CodeSet → Option Addresses → Frames → List FrameMark → Option (List ℕ) → Option (List ℕ) → Result Tally ScriptFault → Type 0
FramesGo codes legacies frames marks old new result = Goes (AreToldAs codes legacies frames marks) old new result
