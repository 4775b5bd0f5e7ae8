-- What goes out of a script that is watched, and what its witness is told.
use Rattle.std.specs.Prelude.{◌≡◌, ◌⊎◌, ℕ, ◌+◌, ◌==◌, Bool, true, false, List, [], ◌∷◌, ◌++◌, codes, length, min, Option, IfSome, Result, if◌then◌else◌, MatchResult}
use Rattle.std.specs.Fmt.{decimal}
use Rattle.std.specs.Io.KnownBytes.{Appends}
use Rattle.i3c_base.specs.Cutting.{CutList}
use Rattle.i3c_lines.specs.declared.refusals.Refusal.{Refusal}
use Rattle.i3c_lines.specs.Faults.{IsReason}
use Rattle.i3c_text.specs.declared.line_error.LineError.{LineError}
use Rattle.i3c_script.specs.declared.stage.Stage.{Stage}
use Rattle.i3c_script.specs.Obeying.{ScriptState}
use Rattle.i3c_streams.specs.declared.faults.ScriptFault.{ScriptFault}
use Rattle.i3c_streams.specs.declared.tally.Tally.{Tally}
use Rattle.i3c_streams.specs.declared.watching.Watching.{Watching}
use Rattle.i3c_runner.specs.declared.watched.WatchFault.{WatchFault}
use Rattle.i3c_runner.specs.Expecting.{HasBegun, IsBad, Standing}
use Rattle.i3c_streams.specs.Outcomes.{AppendsSome}
use Rattle.i3c_streams.specs.Watching.{is_telling}
use Rattle.i3c_runner.specs.Reasons.{IsExplained, IsFormToldIf, IsJudged, IsOutcomeTold, cuts_on}
use Rattle.i3c_runner.specs.Scripts.{IsLineRun, LineRun, LineRuns, lines_bytes, lines_out, lines_refused, refusals_of, run_text}
use Rattle.i3c_runner.specs.ScriptSteps.{Progress}

-- a text with this start in front of each of its lines; the second argument says whether a line begins here
abbrev pub numbered : List ℕ → Bool → List ℕ → List ℕ
numbered start begins [] = []
numbered start true (byte ∷ text) = start ++ (byte ∷ numbered start (byte == 10) text)
numbered start false (byte ∷ text) = byte ∷ numbered start (byte == 10) text

-- a line as it goes out itself, unless it is empty
abbrev pub echo_text : List ℕ → List ℕ
echo_text [] = []
echo_text (byte ∷ line) = codes "> " ++ ((byte ∷ line) ++ 10 ∷ [])

-- a line, if lines go out themselves
abbrev pub echoed : Watching → List ℕ → List ℕ
echoed watching line = if watching.echo then echo_text line else []

-- a text whose lines each begin with this number, if lines are numbered
abbrev pub numbered_by : Watching → ℕ → List ℕ → List ℕ
numbered_by watching number text = if watching.numbers then numbered (decimal number ++ codes ": ") true text else text

-- what goes out of one line: itself, and what it prints, with its refusal
abbrev pub shown : Watching → ℕ → LineRun → List ℕ
shown watching number run = numbered_by watching number (echoed watching run.line ++ run_text run)

-- what goes out of lines, counted from this number on
abbrev pub shown_out : Watching → ℕ → List LineRun → List ℕ
shown_out watching number [] = []
shown_out watching number (run ∷ rest) = shown watching number run ++ shown_out watching (number + 1) rest

-- a strict run has no line that a script may not have
abbrev pub IsFormed : Watching → List ℕ → Type 0
IsFormed watching line = watching.strict ≡ true → IsBad line → ⊥

-- why a strict run ends at a line without a form: the line's number, and the reason that it has
abbrev pub IsLastReason : ℕ → List ℕ → List ℕ → Type 0
IsLastReason number line told = (reason : List ℕ) × IsReason line reason × (told ≡ decimal number ++ (codes ": " ++ reason))

-- what ends a strict run at a line: it has no form, or there is no memory to say so
abbrev pub EndsAt : Watching → ℕ → List ℕ → WatchFault → Type 0
EndsAt watching number line (WatchFault.Script fault) = Unit {0}
EndsAt watching number line (WatchFault.NoForm told) = IsBad line × (watching.strict ≡ true) × IsLastReason number line told

-- the same of each of these lines
abbrev pub AreFormed : Watching → List LineRun → Type 0
AreFormed watching [] = Unit {0}
AreFormed watching (run ∷ rest) = IsFormed watching run.line × AreFormed watching rest

-- what a witness may be after it was told a text
abbrev pub Hears : Type 0 → Type 1
Hears T = T → List ℕ → T → Type 0

-- a witness was told these texts, in their order
abbrev pub AreHeard : {T : Type 0} → Hears T → T → List (List ℕ) → T → Type 0
AreHeard hears old [] new = new ≡ old
AreHeard {T} hears old (told ∷ rest) new = (mid : T) × hears old told mid × AreHeard hears mid rest new

-- the same if a witness is told something, and otherwise nothing
abbrev pub HeardIf : {T : Type 0} → Hears T → Bool → T → List (List ℕ) → T → Type 0
HeardIf hears true old texts new = AreHeard hears old texts new
HeardIf hears false old texts new = new ≡ old

-- a witness was told all of these texts but the last
abbrev pub HeardButLast : {T : Type 0} → Hears T → Bool → T → List (List ℕ) → T → Type 0
HeardButLast hears explain old texts new = (first : List (List ℕ)) × (last : List ℕ) × (texts ≡ first ++ last ∷ []) × HeardIf hears explain old first new

-- a witness was told these texts before a fault: a line whose output can't be written isn't told
abbrev pub HeardBefore : {T : Type 0} → ScriptFault → Hears T → Bool → T → List (List ℕ) → T → Type 0
HeardBefore ScriptFault.Write hears explain old texts new = HeardIf hears explain old texts new ⊎ HeardButLast hears explain old texts new
HeardBefore fault hears explain old texts new = HeardIf hears explain old texts new

-- what is told of a line before which these cuts waited: with explanations why it was refused, and in a test without them why it
-- has no form
abbrev pub IsTold : Watching → ℕ → List ℕ → Option Refusal → CutList → ScriptState → List ℕ → Type 0
IsTold watching number line refused waited after told =
    (watching.explain ≡ true → IsExplained number line refused waited after told) × (watching.explain ≡ false → watching.test ≡ true → IsFormToldIf number line refused told)

-- the same of a line with this result
abbrev pub IsExplainedIf : Watching → ℕ → List ℕ → Result (Unit {0}) (LineError Refusal) → CutList → ScriptState → List ℕ → Type 0
IsExplainedIf watching number line outcome waited after told =
    (watching.explain ≡ true → IsOutcomeTold number line outcome waited after told) × (watching.explain ≡ false → watching.test ≡ true → IsJudged number line outcome told)

-- if explanations are asked for, the cuts that wait on a stage are known
abbrev pub KnowsCuts : Watching → CutList → Stage → Type 0
KnowsCuts watching known stage = watching.explain ≡ true → known ≡ cuts_on stage

-- a line before which these cuts waited was run, shown and told
pub record LineWatched {T : Type 0} (hears : Hears T) (watching : Watching) (number : ℕ) (line : List ℕ) (waited : CutList) (old new : Option (List ℕ)) (before after : T) (from to : Progress) : Type 0 where
  pub said : List ℕ
  pub refused : Option Refusal
  pub told : List ℕ
  pub formed : IsFormed watching line
  pub does : LineRuns from.state line said refused to.state
  pub tells : IsTold watching number line refused waited to.state.script told
  pub heard : HeardIf hears (is_telling watching) before (told ∷ []) after
  pub out : Appends old new (shown watching number (record { line = line; said = said; refused = refused }))
  pub count : to.refused ≡ min (from.refused + refusals_of refused) 18446744073709551615

-- the same of a line that is still to be shown and told, by these texts
pub record LineRan (watching : Watching) (number : ℕ) (line : List ℕ) (waited : CutList) (shows told : List ℕ) (from to : Progress) : Type 0 where
  pub said : List ℕ
  pub refused : Option Refusal
  pub does : LineRuns from.state line said refused to.state
  pub tells : IsTold watching number line refused waited to.state.script told
  pub text : shows ≡ shown watching number (record { line = line; said = said; refused = refused })
  pub count : to.refused ≡ min (from.refused + refusals_of refused) 18446744073709551615

-- a line was run, and a prefix of its output was written out
pub record LineCut (watching : Watching) (number : ℕ) (line : List ℕ) (waited : CutList) (old new : Option (List ℕ)) (from : Progress) : Type 0 where
  pub said : List ℕ
  pub refused : Option Refusal
  pub told : List ℕ
  pub to : Standing
  pub formed : IsFormed watching line
  pub does : LineRuns from.state line said refused to
  pub tells : IsTold watching number line refused waited to.script told
  pub out : AppendsSome old new (shown watching number (record { line = line; said = said; refused = refused }))

-- what ends the run at a line: a fault, before which nothing of the line was written out, or a prefix of its output where the
-- write failed; or that the line has no form
abbrev pub LineFails : Watching → ℕ → List ℕ → CutList → Option (List ℕ) → Option (List ℕ) → Progress → WatchFault → Type 0
LineFails watching number line waited old new from (WatchFault.Script fault) = (new ≡ old) ⊎ ((fault ≡ ScriptFault.Write) × LineCut watching number line waited old new from)
LineFails watching number line waited old new from (WatchFault.NoForm told) = IsBad line × (watching.strict ≡ true) × IsLastReason number line told × (new ≡ old)

-- the result of a line: with a fault the witness isn't told of it
abbrev pub LineEndsWatched : {T : Type 0} → Hears T → Watching → ℕ → List ℕ → CutList → Option (List ℕ) → Option (List ℕ) → T → T → Progress → Progress → Result (Unit {0}) WatchFault → Type 0
LineEndsWatched hears watching number line waited old new before after from to result =
    MatchResult result (λ _. LineWatched hears watching number line waited old new before after from to) (λ fault. (after ≡ before) × LineFails watching number line waited old new from fault)

-- lines, counted from this number on, lead from one state to another, and these texts tell of them
abbrev pub LinesTell : Watching → ℕ → Standing → List LineRun → List (List ℕ) → Standing → Type 0
LinesTell watching number old [] [] new = new ≡ old
LinesTell watching number old [] (told ∷ texts) new = ⊥
LinesTell watching number old (run ∷ rest) [] new = ⊥
LinesTell watching number old (run ∷ rest) (told ∷ texts) new =
    (mid : Standing) × IsLineRun old run mid × IsTold watching number run.line run.refused (cuts_on old.script.stage) mid.script told × LinesTell watching (number + 1) mid rest texts new

-- lines were run from one state on, shown and told
pub record WatchedWhole {T : Type 0} (hears : Hears T) (watching : Watching) (known old new : Option (List ℕ)) (before after : T) (from to : Progress) : Type 0 where
  pub lines : List LineRun
  pub texts : List (List ℕ)
  pub run : LinesTell watching 1 from.state lines texts to.state
  pub heard : HeardIf hears (is_telling watching) before texts after
  pub formed : AreFormed watching lines
  pub all : IfSome known (λ script. lines_bytes lines ≡ script ++ 10 ∷ [])
  pub out : Appends old new (shown_out watching 1 lines)
  pub count : min to.refused 18446744073709551615 ≡ min (from.refused + lines_refused lines) 18446744073709551615

-- the first lines of a script were run, and then a fault ended the run: a prefix of their output was written out
pub record WatchedPart {T : Type 0} (hears : Hears T) (watching : Watching) (known old new : Option (List ℕ)) (before after : T) (from : Progress) (fault : ScriptFault) : Type 0 where
  pub lines : List LineRun
  pub texts : List (List ℕ)
  pub to : Standing
  pub rest : List ℕ
  pub run : LinesTell watching 1 from.state lines texts to
  pub heard : HeardBefore fault hears (is_telling watching) before texts after
  pub formed : AreFormed watching lines
  pub first : IfSome known (λ script. lines_bytes lines ++ rest ≡ script ++ 10 ∷ [])
  pub out : AppendsSome old new (shown_out watching 1 lines)

-- the lines before one without a form were run, and all that is shown and told of them went out; the fault tells this line
pub record WatchedTo {T : Type 0} (hears : Hears T) (watching : Watching) (known old new : Option (List ℕ)) (before after : T) (from : Progress) (told : List ℕ) : Type 0 where
  pub lines : List LineRun
  pub texts : List (List ℕ)
  pub to : Standing
  pub line : List ℕ
  pub rest : List ℕ
  pub strict : watching.strict ≡ true
  pub none : IsBad line
  pub why : IsLastReason (1 + length lines) line told
  pub run : LinesTell watching 1 from.state lines texts to
  pub heard : HeardIf hears (is_telling watching) before texts after
  pub formed : AreFormed watching lines
  pub first : IfSome known (λ script. lines_bytes lines ++ (line ++ 10 ∷ rest) ≡ script ++ 10 ∷ [])
  pub out : Appends old new (shown_out watching 1 lines)

-- what ends a run early
abbrev pub WatchedEnds : {T : Type 0} → Hears T → Watching → Option (List ℕ) → Option (List ℕ) → Option (List ℕ) → T → T → Progress → WatchFault → Type 0
WatchedEnds hears watching known old new before after from (WatchFault.Script fault) = WatchedPart hears watching known old new before after from fault
WatchedEnds hears watching known old new before after from (WatchFault.NoForm told) = WatchedTo hears watching known old new before after from told

-- the result of a run
abbrev pub RunsWatched : {T : Type 0} → Hears T → Watching → Option (List ℕ) → Option (List ℕ) → Option (List ℕ) → T → T → Progress → Progress → Result (Unit {0}) WatchFault → Type 0
RunsWatched hears watching known old new before after from to result =
    MatchResult result (λ _. WatchedWhole hears watching known old new before after from to) (WatchedEnds hears watching known old new before after from)

-- what a run counts: the refused lines, and the expectations that weren't met. A test counts no refusals, and lines without a
-- form as expectations that weren't met
abbrev pub counts_of : Watching → Progress → Tally
counts_of watching to =
    if watching.test then record { refused = 0; unmet = min (to.state.unmet + to.state.formless) 18446744073709551615 } else record { refused = to.refused; unmet = to.state.unmet }

-- the same from a script's start, with no line refused, and what the run counts
abbrev pub WatchedGoesOut : {T : Type 0} → Hears T → Watching → Option (List ℕ) → Option (List ℕ) → Option (List ℕ) → T → T → Result Tally WatchFault → Type 0
WatchedGoesOut hears watching known old new before after result = (from : Progress) × HasBegun from.state × (from.refused ≡ 0)
    × MatchResult result (λ tally. (to : Progress) × (tally ≡ counts_of watching to) × WatchedWhole hears watching known old new before after from to) (WatchedEnds hears watching known old new before after from)

-- Without numbers and without the lines themselves, what goes out of lines is what they put out
abbrev pub WatchedLinesPrintTheSame : Type 0
WatchedLinesPrintTheSame = (watching : Watching) (number : ℕ) (lines : List LineRun) → watching.numbers ≡ false → watching.echo ≡ false → shown_out watching number lines ≡ lines_out lines
