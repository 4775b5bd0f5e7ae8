-- What a viewer is shown of a script.
use Rattle.std.specs.Prelude.{◌≡◌, ◌⊎◌, ℕ, ◌+◌, ◌-◌, drop, length, List, [], ◌∷◌, ◌++◌, min, Option, IfSome, Result, MatchResult}
use Rattle.i3c_frame.specs.declared.symbols.Symbol.{Symbol}
use Rattle.i3c_lines.specs.declared.refusals.Refusal.{Refusal}
use Rattle.i3c_streams.specs.declared.faults.ScriptFault.{ScriptFault}
use Rattle.i3c_streams.specs.declared.tally.Tally.{Tally}
use Rattle.i3c_streams.specs.Outcomes.{HasNoFeed}
use Rattle.i3c_runner.specs.Scripts.{LineRuns, refusals_of, refused_text}
use Rattle.i3c_runner.specs.ScriptSteps.{Progress}
use Rattle.i3c_script.specs.Obeying.{wire_on}
use Rattle.i3c_runner.specs.Expecting.{HasBegun}

-- a viewer after it was shown a line, the line's output, and the symbols that it sent
abbrev pub Views : Type 0 → Type 1
Views V = V → List ℕ → List ℕ → List Symbol → V → Type 0

-- what it may be where it fails at a line, by its fault
abbrev pub Fails : Type 0 → Type 1
Fails V = V → List ℕ → List ℕ → List Symbol → ScriptFault → V → Type 0

-- what a viewer is shown of a line: its bytes without the line feed, what it printed, and the symbols that it sent
pub record Shown : Type 0 where
  pub line : List ℕ
  pub printed : List ℕ
  pub wire : List Symbol

-- the last symbols of a wire, as many as are kept
abbrev pub kept : List Symbol → List Symbol
kept wire = drop (length wire - 256) wire

-- a line was run: what it put out, and its symbols, which came behind those of the lines before
pub record LineRan (line printed : List ℕ) (wire : List Symbol) (from to : Progress) : Type 0 where
  pub said : List ℕ
  pub refused : Option Refusal
  pub does : LineRuns from.state line said refused to.state
  pub text : printed ≡ said ++ refused_text refused
  pub sent : wire_on to.state.script.stage ≡ kept (wire_on from.state.script.stage ++ wire)
  pub count : to.refused ≡ min (from.refused + refusals_of refused) 18446744073709551615

-- a line was run and shown
abbrev pub LineViewed : {V : Type 0} → Views V → List ℕ → V → V → Progress → Progress → Type 0
LineViewed gives line old new from to = (printed : List ℕ) × (wire : List Symbol) × LineRan line printed wire from to × gives old line printed wire new

-- a line was run, and the viewer failed at it
abbrev pub LineFailed : {V : Type 0} → Fails V → List ℕ → V → V → Progress → ScriptFault → Type 0
LineFailed fails line old new from fault = (printed : List ℕ) × (wire : List Symbol) × (to : Progress) × LineRan line printed wire from to × fails old line printed wire fault new

-- the result of a line: with a fault of the run the viewer wasn't shown it
abbrev pub LineEnds : {V : Type 0} → Views V → Fails V → List ℕ → V → V → Progress → Progress → Result (Unit {0}) ScriptFault → Type 0
LineEnds gives fails line old new from to result =
    MatchResult result (λ _. LineViewed gives line old new from to) (λ fault. (new ≡ old) ⊎ LineFailed fails line old new from fault)

-- lines were run, one after another
abbrev pub AreRun : Progress → List Shown → Progress → Type 0
AreRun from [] to = to ≡ from
AreRun from (shown ∷ rest) to = (at : Progress) × HasNoFeed shown.line × LineRan shown.line shown.printed shown.wire from at × AreRun at rest to

-- a viewer was shown them
abbrev pub AreSeen : {V : Type 0} → Views V → V → List Shown → V → Type 0
AreSeen gives old [] new = new ≡ old
AreSeen {V} gives old (shown ∷ rest) new = (mid : V) × gives old shown.line shown.printed shown.wire mid × AreSeen gives mid rest new

-- the bytes of lines, each with its line feed
abbrev pub bytes_of : List Shown → List ℕ
bytes_of [] = []
bytes_of (shown ∷ rest) = shown.line ++ 10 ∷ bytes_of rest

-- each line of a script was run, its last one too, and shown
pub record ViewedWhole {V : Type 0} (gives : Views V) (known : Option (List ℕ)) (old new : V) (from to : Progress) : Type 0 where
  pub lines : List Shown
  pub run : AreRun from lines to
  pub seen : AreSeen gives old lines new
  pub all : IfSome known (λ script. bytes_of lines ≡ script ++ 10 ∷ [])

-- the first lines of a script were run and shown, and then a fault ended the run
pub record ViewedPart {V : Type 0} (gives : Views V) (known : Option (List ℕ)) (old new : V) (from : Progress) : Type 0 where
  pub lines : List Shown
  pub to : Progress
  pub rest : List ℕ
  pub run : AreRun from lines to
  pub seen : AreSeen gives old lines new
  pub first : IfSome known (λ script. bytes_of lines ++ rest ≡ script ++ 10 ∷ [])

-- the first lines of a script were run, and the viewer, which was shown those before the last of them, failed at that one
pub record ViewedTo {V : Type 0} (gives : Views V) (fails : Fails V) (known : Option (List ℕ)) (old new : V) (from : Progress) (fault : ScriptFault) : Type 0 where
  pub lines : List Shown
  pub last : Shown
  pub mid : V
  pub to : Progress
  pub rest : List ℕ
  pub run : AreRun from (lines ++ last ∷ []) to
  pub seen : AreSeen gives old lines mid
  pub failed : fails mid last.line last.printed last.wire fault new
  pub first : IfSome known (λ script. bytes_of (lines ++ last ∷ []) ++ rest ≡ script ++ 10 ∷ [])

-- what ends a run early
abbrev pub ViewedEnds : {V : Type 0} → Views V → Fails V → Option (List ℕ) → V → V → Progress → ScriptFault → Type 0
ViewedEnds gives fails known old new from fault = ViewedPart gives known old new from ⊎ ViewedTo gives fails known old new from fault

-- the result of a run
abbrev pub RunsViewed : {V : Type 0} → Views V → Fails V → Option (List ℕ) → V → V → Progress → Progress → Result (Unit {0}) ScriptFault → Type 0
RunsViewed gives fails known old new from to result = MatchResult result (λ _. ViewedWhole gives known old new from to) (ViewedEnds gives fails known old new from)

-- the same from a script's start, where the tally counts the refused lines, and the expectations that weren't met
abbrev pub ViewedGoes : {V : Type 0} → Views V → Fails V → Option (List ℕ) → V → V → Result Tally ScriptFault → Type 0
ViewedGoes gives fails known old new result = (from : Progress) × HasBegun from.state × (from.refused ≡ 0)
    × MatchResult result (λ tally. (to : Progress) × (to.refused ≡ tally.refused) × (to.state.unmet ≡ tally.unmet) × ViewedWhole gives known old new from to) (ViewedEnds gives fails known old new from)
