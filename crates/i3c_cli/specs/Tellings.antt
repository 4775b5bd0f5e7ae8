-- What goes out of a trace that is told.
use Rattle.std.specs.Prelude.{◌≡◌, ◌⊎◌, ℕ, ◌<◌, Bool, true, false, List, [], ◌∷◌, ◌++◌, codes, map, Option, Some, None, IfSome, Result, Err, IsErr}
use Rattle.i3c_ccc.specs.declared.codes.CodeSet.{CodeSet}
use Rattle.i3c_frame.specs.declared.frames.Frames.{Frames}
use Rattle.i3c_frame.specs.declared.symbols.Symbol.{Symbol}
use Rattle.i3c_streams.specs.declared.faults.ScriptFault.{ScriptFault}
use Rattle.i3c_streams.specs.declared.reading.TheConstants.{MOST_BYTES}
use Rattle.i3c_streams.specs.declared.tally.Tally.{Tally}
use Rattle.i3c_task.specs.declared.task.Capturing.{Capturing}
use Rattle.i3c_task.specs.declared.task.Telling.{Telling}
use Rattle.i3c_traces.specs.Explained.{GrowsOrNot}
use Rattle.i3c_traces.specs.Linted.{GoesOutAs, GoesOutLinted}
use Rattle.i3c_traces.specs.Symbols.{AreFrames, FramesGo, text_size}
use Rattle.i3c_traces.specs.Traces.{GoesOut}
use Rattle.i3c_wave.specs.declared.captured.Captured.{Captured}
use Rattle.i3c_wave.specs.declared.captured.FrameMark.{FrameMark}
use Rattle.i3c_wave.specs.declared.timescale.Instant.{Instant}
use Rattle.i3c_wave.specs.CaptureTexts.{IsFound}
use Rattle.i3c_wave.specs.Found.{without_time}
use Rattle.i3c_wave.specs.Timescales.{instant_text}
use Rattle.i3c_cli.specs.declared.fault.Fault.{Fault}
use Rattle.i3c_cli.specs.Endings.{ending}

-- what goes out of a trace that is told in this way: with `Ok` all of its lines
abbrev pub TellsAs : Telling → Option (List ℕ) → Option (List ℕ) → Option (List ℕ) → Result Tally ScriptFault → Type 0
TellsAs (Telling.Plain known) trace old new result = GoesOut known trace old new result
TellsAs (Telling.Lint legacies) trace old new result = GoesOutLinted legacies.0 trace old new result
TellsAs (Telling.Explain known legacies) trace old new result = GoesOutAs known legacies trace old new result

-- what goes out of frames that have these marks and are told in this way
abbrev pub TellsFrames : Telling → Frames → List FrameMark → Option (List ℕ) → Option (List ℕ) → Result Tally ScriptFault → Type 0
TellsFrames (Telling.Plain known) frames marks old new result = FramesGo known None frames marks old new result
TellsFrames (Telling.Lint legacies) frames marks old new result = FramesGo CodeSet.Extended (Some legacies) frames marks old new result
TellsFrames (Telling.Explain known legacies) frames marks old new result = FramesGo known legacies frames marks old new result

-- the marks that are told of frames: with their times, if these are asked for
abbrev pub printed_marks : Bool → List FrameMark → List FrameMark
printed_marks true marks = marks
printed_marks false marks = map without_time marks

-- nothing is told for want of memory, or of symbols whose text would be longer than a trace may be
abbrev pub TellsNothing : List Symbol → Option (List ℕ) → Option (List ℕ) → Result Tally Fault → Type 0
TellsNothing symbols old new result =
    ((result ≡ Err Fault.Memory) ⊎ ((result ≡ Err Fault.TooLarge) × (MOST_BYTES < text_size symbols))) × (new ≡ old)

-- the frames of symbols were told, with these marks; a script's fault is told as the program's
pub record ToldFrames (telling : Telling) (symbols : List Symbol) (marks : List FrameMark) (old new : Option (List ℕ)) (result : Result Tally Fault) : Type 0 where
  pub frames : Frames
  pub are : AreFrames symbols frames
  pub outcome : Result Tally ScriptFault
  pub told : TellsFrames telling frames marks old new outcome
  pub same : result ≡ ending outcome true

-- what goes out of what was read of a capture, with the times of its frames or without
abbrev pub TellsFound : Bool → Telling → Captured → Option (List ℕ) → Option (List ℕ) → Result Tally Fault → Type 0
TellsFound numbers telling captured old new result =
    TellsNothing captured.symbols.items old new result ⊎ ToldFrames telling captured.symbols.items (printed_marks numbers captured.marks.items) old new result

-- what is found in a known capture, if it could be read
abbrev pub ReadsAs : Capturing → List ℕ → Captured → Type 0
ReadsAs capturing text captured = IsFound capturing.legacies capturing.scl.now capturing.sda.now text captured

-- the line that tells since when a line of the bus has no level
abbrev pub gap_text : Instant → List ℕ
gap_text at = codes "a line has no level at " ++ (instant_text at ++ (codes ", and is passed over until it has one (docs/WAVES.md, Captures)" ++ 10 ∷ []))

-- the same, if one has none
abbrev pub gap_line : Option Instant → List ℕ
gap_line None = []
gap_line (Some at) = gap_text at

-- notes grow
abbrev pub Grows : List ℕ → List ℕ → Type 0
Grows old new = (more : List ℕ) × (new ≡ old ++ more)

-- notes tell once that a line has no level, before all else; for want of memory they don't
abbrev pub NotesGap : Option Instant → List ℕ → List ℕ → Type 0
NotesGap gap old new = (noted : List ℕ) × GrowsOrNot (gap_line gap) old noted × Grows noted new

-- a capture was read, and what was found was told
pub record ToldCapture (capturing : Capturing) (telling : Telling) (known old new : Option (List ℕ)) (before after : List ℕ) (result : Result Tally Fault) : Type 0 where
  pub captured : Captured
  pub read : IfSome known (λ text. ReadsAs capturing text captured)
  pub told : TellsFound capturing.numbers telling captured old new result
  pub noted : NotesGap captured.gap before after

-- what goes out of a capture: with `Ok` all lines of its frames; a capture that can't be read prints nothing
abbrev pub TellsCapture : Capturing → Telling → Option (List ℕ) → Option (List ℕ) → Option (List ℕ) → List ℕ → List ℕ → Result Tally Fault → Type 0
TellsCapture capturing telling known old new before after result =
    (IsErr result × (new ≡ old)) ⊎ ToldCapture capturing telling known old new before after result

-- a read failed between the two
abbrev pub HasFailed : Bool → Bool → Type 0
HasFailed old new = (old ≡ false) × (new ≡ true)
