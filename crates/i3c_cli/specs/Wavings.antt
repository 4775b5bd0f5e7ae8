-- The dump of a script.
use Rattle.std.specs.Prelude.{◌≡◌, ◌⊎◌, ℕ, Bool, true, false, List, [], ◌∷◌, ◌++◌, Option, IfSome, Result, Err, MatchResult}
use Rattle.std.specs.Io.KnownBytes.{Appends}
use Rattle.i3c_frame.specs.declared.symbols.Symbol.{Symbol}
use Rattle.i3c_wave.specs.declared.content.Content.{Content}
use Rattle.i3c_wave.specs.declared.wave.Wave.{Wave}
use Rattle.i3c_wave.specs.Dump.{after_symbol, free_bus, in_full, symbols_dump}
use Rattle.i3c_wave.specs.Scripts.{script_preamble, string_text}
use Rattle.i3c_streams.specs.declared.faults.ScriptFault.{ScriptFault}
use Rattle.i3c_streams.specs.declared.tally.Tally.{Tally}
use Rattle.i3c_streams.specs.Outcomes.{AppendsSome, Output, Puts, PutsOrFails, output}
use Rattle.i3c_runner.specs.Expecting.{HasBegun}
use Rattle.i3c_runner.specs.ScriptSteps.{Progress}
use Rattle.i3c_runner.specs.Viewed.{AreRun, Shown, bytes_of}

-- a plain dump has the two wires alone
abbrev pub content_of : Bool → Content
content_of true = Content.Wires
content_of false = Content.Full

-- the dump after symbols, one after another
abbrev pub after_wire : ℕ → Wave → List Symbol → Wave
after_wire legacies wave [] = wave
after_wire legacies wave (symbol ∷ rest) = after_wire legacies (after_symbol legacies wave symbol) rest

-- a line with its symbols, and what it printed where the last of them ends; of a plain dump the symbols alone
abbrev pub line_dump : ℕ → Wave → List ℕ → List ℕ → List Symbol → List ℕ
line_dump legacies wave line printed wire =
    in_full wave.content (string_text 108 line) ++ (symbols_dump legacies wave wire ++ in_full wave.content (string_text 112 printed))

-- the same of a line that was run, unless it sent nothing
abbrev pub seen_dump : ℕ → Wave → List ℕ → List ℕ → List Symbol → List ℕ
seen_dump legacies wave line printed [] = []
seen_dump legacies wave line printed (symbol ∷ wire) = line_dump legacies wave line printed (symbol ∷ wire)

-- what a dump has of lines, one after another
abbrev pub shown_dump : ℕ → Wave → List Shown → List ℕ
shown_dump legacies wave [] = []
shown_dump legacies wave (shown ∷ rest) = seen_dump legacies wave shown.line shown.printed shown.wire ++ shown_dump legacies (after_wire legacies wave shown.wire) rest

-- the whole dump of a script's lines
abbrev pub script_dump : ℕ → Content → List Shown → List ℕ
script_dump legacies content lines = script_preamble content ++ shown_dump legacies (free_bus content) lines

-- a dump that is being written: what went out, and what is gathered behind it
pub record Dumping : Type 0 where
  pub legacies : ℕ
  pub wave : Wave
  pub output : Output

abbrev pub dump_at : ℕ → Wave → Option (List ℕ) → List ℕ → Dumping
dump_at legacies wave out gathered = record { legacies = legacies; wave = wave; output = output out gathered }

-- a line was put behind, and part of it may be written out
abbrev pub WavesLine : Dumping → List ℕ → List ℕ → List Symbol → Dumping → Type 0
WavesLine old line printed wire new =
    (new.legacies ≡ old.legacies) × (new.wave ≡ after_wire old.legacies old.wave wire) × Puts old.output new.output (seen_dump old.legacies old.wave line printed wire)

-- a line wasn't: for want of memory nothing of it is there, and a writer that fails took a prefix
abbrev pub FailsLine : Dumping → List ℕ → List ℕ → List Symbol → ScriptFault → Dumping → Type 0
FailsLine old line printed wire fault new = PutsOrFails old.output new.output (seen_dump old.legacies old.wave line printed wire) (Err fault)

-- the gathered output is written out at the end, whatever the result of the lines; but nothing goes to a writer that failed
abbrev pub GoesLast : Option (List ℕ) → Option (List ℕ) → List ℕ → Result Tally ScriptFault → Result Tally ScriptFault → Type 0
GoesLast old new gathered (Err ScriptFault.Write) result = (result ≡ Err ScriptFault.Write) × (new ≡ old)
GoesLast old new gathered outcome result = ((result ≡ outcome) × Appends old new gathered) ⊎ ((result ≡ Err ScriptFault.Write) × AppendsSome old new gathered)

-- the dump of all lines went out, or of a writer that failed a prefix of it
abbrev pub WentOut : ScriptFault → Option (List ℕ) → Option (List ℕ) → List ℕ → Type 0
WentOut ScriptFault.Write old new dump = AppendsSome old new dump
WentOut fault old new dump = Appends old new dump

-- each line of a script was run, from its start, and the dump of them went out
pub record WavedWhole (legacies : ℕ) (content : Content) (known old new : Option (List ℕ)) (tally : Tally) : Type 0 where
  pub from : Progress
  pub to : Progress
  pub lines : List Shown
  pub begun : HasBegun from.state
  pub none : from.refused ≡ 0
  pub counted : to.refused ≡ tally.refused
  pub unmet : to.state.unmet ≡ tally.unmet
  pub run : AreRun from lines to
  pub all : IfSome known (λ script. bytes_of lines ≡ script ++ 10 ∷ [])
  pub out : Appends old new (script_dump legacies content lines)

-- the first lines were run, and their dump went out
pub record WavedPart (legacies : ℕ) (content : Content) (known old new : Option (List ℕ)) (fault : ScriptFault) : Type 0 where
  pub from : Progress
  pub to : Progress
  pub lines : List Shown
  pub rest : List ℕ
  pub begun : HasBegun from.state
  pub run : AreRun from lines to
  pub first : IfSome known (λ script. bytes_of lines ++ rest ≡ script ++ 10 ∷ [])
  pub out : WentOut fault old new (script_dump legacies content lines)

-- what goes out of a script as a dump; where memory is short at once, nothing does
abbrev pub IsWaved : ℕ → Content → Option (List ℕ) → Option (List ℕ) → Option (List ℕ) → Result Tally ScriptFault → Type 0
IsWaved legacies content known old new result =
    MatchResult result (WavedWhole legacies content known old new) (λ fault. ((fault ≡ ScriptFault.Memory) × (new ≡ old)) ⊎ WavedPart legacies content known old new fault)
