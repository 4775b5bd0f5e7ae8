-- What goes out of a text that is a trace, or is none.
use Rattle.std.specs.Prelude.{◌≡◌, ◌⊎◌, ℕ, All, List, [], ◌∷◌, ◌++◌, codes, decimal, map, Option, Some, None, IfSome, Result, MatchResult}
use Rattle.std.specs.Io.KnownBytes.{Appends, Keeps}
use Rattle.i3c_frame.specs.declared.symbols.Symbol.{Symbol}
use Rattle.i3c_frame.specs.declared.traces.TraceFault.{TraceFault}
use Rattle.i3c_frame.specs.Parts.{parts}
use Rattle.i3c_frame.specs.Texts.{IsInRange, text_of}
use Rattle.i3c_frame.specs.Traces.{IsFirstFault, IsTrace}
use Rattle.i3c_streams.specs.declared.faults.ScriptFault.{ScriptFault}
use Rattle.i3c_streams.specs.Outcomes.{AppendsSome}
use Rattle.i3c_wave.specs.declared.content.Content.{Content}
use Rattle.i3c_wave.specs.Dump.{dump_text, line}

-- the line of a text that is no trace: want of memory has none
abbrev pub fault_line : TraceFault → List ℕ
fault_line (TraceFault.BadSymbol number) = codes "refused BadSymbol " ++ (decimal number ++ 10 ∷ [])
fault_line TraceFault.NoStart = line (codes "refused NoStart")
fault_line TraceFault.NoStop = line (codes "refused NoStop")
fault_line TraceFault.OutOfMemory = []

-- the text is a trace, with this dump
pub record IsDump (legacies : ℕ) (content : Content) (text dump : List ℕ) : Type 0 where
  pub trace : List Symbol
  pub is_trace : IsTrace trace
  pub in_range : All IsInRange trace
  pub same : map text_of trace ≡ parts text
  pub dumped : dump ≡ dump_text legacies content trace

-- the result of the text is its dump, or the line of its first fault
abbrev pub ComesTo : ℕ → Content → List ℕ → Option TraceFault → List ℕ → Type 0
ComesTo legacies content text None lines = IsDump legacies content text lines
ComesTo legacies content text (Some fault) lines = IsFirstFault (parts text) fault × (lines ≡ fault_line fault)

-- the known bytes are a text with this result
pub record CameTo (legacies : ℕ) (content : Content) (known : Option (List ℕ)) (fault : Option TraceFault) (lines : List ℕ) : Type 0 where
  pub text : List ℕ
  pub read : IfSome known (λ bytes. text ≡ bytes)
  pub comes : ComesTo legacies content text fault lines

-- the output of known bytes: with `Ok` their whole result, and otherwise nothing or a prefix of it
abbrev pub GoesOut : ℕ → Content → Option (List ℕ) → Option (List ℕ) → Option (List ℕ) → Result (Option TraceFault) ScriptFault → Type 0
GoesOut legacies content known old new result =
    MatchResult result
    (λ fault. (lines : List ℕ) × CameTo legacies content known fault lines × Appends old new lines)
    (λ _. Keeps old new ⊎ ((lines : List ℕ) × (fault : Option TraceFault) × CameTo legacies content known fault lines × AppendsSome old new lines))
