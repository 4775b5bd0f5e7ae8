-- The lines that a trace comes to, where `codes` are the codes that are known by name.
use Rattle.std.specs.Prelude.{◌≡◌, ◌⊎◌, ℕ, ◌+◌, ◌-◌, nat_lt, All, List, [], ◌∷◌, ◌++◌, codes, decimal, flat_map, map, min, slice_get, Option, Some, IfSome, Result, MatchResult, if◌then◌else◌}
use Rattle.std.specs.Io.KnownBytes.{Appends, Keeps}
use Rattle.i3c_ccc.specs.declared.codes.CodeSet.{CodeSet}
use Rattle.i3c_frame.specs.declared.symbols.Symbol.{Symbol}
use Rattle.i3c_frame.specs.declared.traces.TraceFault.{TraceFault}
use Rattle.i3c_frame.specs.Parts.{parts}
use Rattle.i3c_frame.specs.Texts.{IsInRange, text_of}
use Rattle.i3c_frame.specs.Traces.{IsFirstFault, IsTrace}
use Rattle.i3c_monitor.specs.declared.decoded.Decoded.{Decoded}
use Rattle.i3c_wave.specs.declared.captured.FrameMark.{FrameMark}
use Rattle.i3c_monitor.specs.Lines.{line_text}
use Rattle.i3c_monitor.specs.Trace.{trace_told}
use Rattle.i3c_streams.specs.declared.faults.ScriptFault.{ScriptFault}
use Rattle.i3c_streams.specs.declared.tally.Tally.{Tally}
use Rattle.i3c_streams.specs.Outcomes.{AppendsSome}

-- a byte as it is read: one that isn't ASCII is a question mark
abbrev pub ascii : ℕ → ℕ
ascii byte = if nat_lt byte 128 then byte else 63

-- the lines of the decoded parts of a trace, whose frames have these marks
abbrev pub lines_text : List Symbol → List FrameMark → List Decoded → List ℕ
lines_text trace marks decoded = flat_map (line_text trace marks) decoded

-- the lines of a trace
abbrev pub trace_text : CodeSet → List Symbol → List FrameMark → List ℕ
trace_text codes trace marks = lines_text trace marks (trace_told codes trace)

-- whether a frame with this mark can't be read
abbrev pub losses_in : Option FrameMark → ℕ
losses_in (Some (FrameMark.Lost loss)) = 1
losses_in mark = 0

-- how many refusals one line is, where frames have these marks: one that can't be read counts too
abbrev pub refusals_in : List FrameMark → Decoded → ℕ
refusals_in marks (Decoded.Refused fault) = 1
refusals_in marks (Decoded.FrameStart number) = losses_in (slice_get marks (number - 1))
refusals_in marks _ = 0

-- how many refusals several are
abbrev pub refused_in : List FrameMark → List Decoded → ℕ
refused_in marks [] = 0
refused_in marks (decoded ∷ rest) = refusals_in marks decoded + refused_in marks rest

-- the line of a text that is no trace: want of memory has none
abbrev pub fault_line : TraceFault → List ℕ
fault_line (TraceFault.BadSymbol number) = codes "refused BadSymbol " ++ (decimal number ++ 10 ∷ [])
fault_line TraceFault.NoStart = codes "refused NoStart" ++ 10 ∷ []
fault_line TraceFault.NoStop = codes "refused NoStop" ++ 10 ∷ []
fault_line TraceFault.OutOfMemory = []

-- the text is a trace, with these lines and this number of refusals
pub record IsTraceTold (codes : CodeSet) (text lines : List ℕ) (refused : ℕ) : Type 0 where
  pub trace : List Symbol
  pub is_trace : IsTrace trace
  pub in_range : All IsInRange trace
  pub same : map text_of trace ≡ parts text
  pub told : lines ≡ trace_text codes trace []
  pub counted : refused ≡ min (refused_in [] (trace_told codes trace)) 18446744073709551615

-- the text is none, with the line of its first fault
pub record IsFaultTold (text lines : List ℕ) (refused : ℕ) : Type 0 where
  pub fault : TraceFault
  pub first : IsFirstFault (parts text) fault
  pub told : lines ≡ fault_line fault
  pub counted : refused ≡ 1

-- the text gives these lines, and this number of refusals
abbrev pub IsTold : CodeSet → List ℕ → List ℕ → ℕ → Type 0
IsTold codes text lines refused = IsTraceTold codes text lines refused ⊎ IsFaultTold text lines refused

-- the text as which known bytes are read gives these lines, and this number of refusals
abbrev pub CameTo : (List ℕ → List ℕ → ℕ → Type 0) → Option (List ℕ) → List ℕ → ℕ → Type 0
CameTo Gives known lines refused = (text : List ℕ) × IfSome known (λ bytes. text ≡ map ascii bytes) × Gives text lines refused

-- what goes out where there may be these lines with this number of refusals: all of them with `Ok`, and otherwise none or the
-- beginning
abbrev pub Goes : (List ℕ → ℕ → Type 0) → Option (List ℕ) → Option (List ℕ) → Result Tally ScriptFault → Type 0
Goes May old new result =
    MatchResult result
    (λ tally. (lines : List ℕ) × May lines tally.refused × Appends old new lines)
    (λ _. Keeps old new ⊎ ((lines : List ℕ) × (refused : ℕ) × May lines refused × AppendsSome old new lines))

-- what goes out of known bytes
abbrev pub GoesOut : CodeSet → Option (List ℕ) → Option (List ℕ) → Option (List ℕ) → Result Tally ScriptFault → Type 0
GoesOut codes known old new result = Goes (CameTo (IsTold codes) known) old new result
