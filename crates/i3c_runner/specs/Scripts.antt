-- What goes out of a script: its lines, and what each of them puts out.
use Rattle.std.specs.Prelude.{◌≡◌, ◌⊎◌, ℕ, ◌+◌, List, [], ◌∷◌, ◌++◌, codes, min, take, Option, Some, None, IfSome, Result, MatchResult}
use Rattle.std.specs.Io.KnownBytes.{Appends, Consumes}
use Rattle.i3c_lines.specs.declared.command.Command.{Command}
use Rattle.i3c_lines.specs.declared.refusals.Refusal.{Refusal}
use Rattle.i3c_lines.specs.Forms.{HasNoForm, IsCommand, IsSkipped}
use Rattle.i3c_lines.specs.Refusing.{refusal_text}
use Rattle.i3c_streams.specs.declared.faults.ScriptFault.{ScriptFault}
use Rattle.i3c_streams.specs.declared.tally.Tally.{Tally}
use Rattle.i3c_script.specs.declared.piece.Piece.{Piece}
use Rattle.i3c_script.specs.Obeying.{ComesTo, Obeys, ScriptState}
use Rattle.i3c_script.specs.Printed.{pieces_text}
use Rattle.i3c_facts.specs.declared.marks.Mark.{Mark}
use Rattle.i3c_facts.specs.Forms.{IsMark}
use Rattle.i3c_runner.specs.Expecting.{HasBegun, IsBad, LastsAt, MarkDoes, Standing, counted, misread, went}
use Rattle.i3c_streams.specs.Outcomes.{AppendsSome, HasNoFeed}

-- a line that was run: its bytes without the line feed, what it printed, and why it was refused, if it was
pub record LineRun : Type 0 where
  pub line : List ℕ
  pub said : List ℕ
  pub refused : Option Refusal

-- the line of a refusal
abbrev pub refused_text : Option Refusal → List ℕ
refused_text None = []
refused_text (Some why) = codes "refused " ++ (refusal_text why ++ 10 ∷ [])

-- what a line puts out: what it printed, and last its refusal
abbrev pub run_text : LineRun → List ℕ
run_text run = run.said ++ refused_text run.refused

-- of a bus that takes commands alone: what one line prints, why it is refused, if it is, and where the script is after it. A
-- line without a form is refused; an empty line and a comment do nothing; any other line does what its command does
abbrev pub LineDoes : ScriptState → List ℕ → List ℕ → Option Refusal → ScriptState → Type 0
LineDoes old line said refused new = (HasNoForm line × (said ≡ []) × (refused ≡ Some Refusal.BadLine) × (new ≡ old))
    ⊎ (IsSkipped line × (said ≡ []) × (refused ≡ None) × (new ≡ old))
    ⊎ ((command : Command) × IsCommand line command × Obeys old command said refused new)

-- one line was run, and the script went from one state to another
pub record IsRun (old : ScriptState) (run : LineRun) (new : ScriptState) : Type 0 where
  pub one : HasNoFeed run.line
  pub does : LineDoes old run.line run.said run.refused new

-- lines, run one after another, lead from one state to another
abbrev pub Lead : ScriptState → List LineRun → ScriptState → Type 0
Lead old [] new = new ≡ old
Lead old (run ∷ rest) new = (mid : ScriptState) × IsRun old run mid × Lead mid rest new

-- of a script: the output of a line that was counted, its refusal, if it has one, and the state of the script after it. A
-- mark that isn't refused isn't the previous line of a later fact. The lasting expectations that no longer hold follow the
-- command's output
abbrev pub CountedRuns : Standing → List ℕ → List ℕ → Option Refusal → Standing → Type 0
CountedRuns now line said refused new = (IsBad line × (said ≡ []) × (refused ≡ Some Refusal.BadLine) × (new ≡ misread now))
    ⊎ (IsSkipped line × (said ≡ []) × (refused ≡ None) × (new ≡ now))
    ⊎ ((mark : Mark) × IsMark line mark × MarkDoes now mark said refused new)
    ⊎ ((command : Command) × (state : ScriptState) × (pieces : List Piece) × (told : List ℕ) × IsCommand line command × ComesTo now.script.stage now.script.names command pieces refused state × (said ≡ pieces_text pieces ++ told) × LastsAt (went now state pieces refused) state.stage told new)

-- the same of a line that comes next
abbrev pub LineRuns : Standing → List ℕ → List ℕ → Option Refusal → Standing → Type 0
LineRuns old line said refused new = CountedRuns (counted old) line said refused new

-- one line of a script was run
pub record IsLineRun (old : Standing) (run : LineRun) (new : Standing) : Type 0 where
  pub one : HasNoFeed run.line
  pub does : LineRuns old run.line run.said run.refused new

-- lines of a script, run one after another, lead from one place to another
abbrev pub LinesLead : Standing → List LineRun → Standing → Type 0
LinesLead old [] new = new ≡ old
LinesLead old (run ∷ rest) new = (mid : Standing) × IsLineRun old run mid × LinesLead mid rest new

-- lines were run from a script's start
pub record AreRun (lines : List LineRun) : Type 0 where
  pub start : Standing
  pub end : Standing
  pub begun : HasBegun start
  pub lead : LinesLead start lines end

-- the bytes of lines, each with its line feed
abbrev pub lines_bytes : List LineRun → List ℕ
lines_bytes [] = []
lines_bytes (run ∷ rest) = run.line ++ 10 ∷ lines_bytes rest

-- what lines put out, in their order
abbrev pub lines_out : List LineRun → List ℕ
lines_out [] = []
lines_out (run ∷ rest) = run_text run ++ lines_out rest

-- how many refusals one line is
abbrev pub refusals_of : Option Refusal → ℕ
refusals_of None = 0
refusals_of (Some why) = 1

-- how many lines were refused
abbrev pub lines_refused : List LineRun → ℕ
lines_refused [] = 0
lines_refused (run ∷ rest) = refusals_of run.refused + lines_refused rest

-- each line of a script was run, its last one too, which needs no line feed: what they put out went out, and the tally counts the refused ones, and the expectations that weren't met
pub record IsWhole (known old new : Option (List ℕ)) (tally : Tally) : Type 0 where
  pub lines : List LineRun
  pub run : AreRun lines
  pub all : IfSome known (λ script. lines_bytes lines ≡ script ++ 10 ∷ [])
  pub out : Appends old new (lines_out lines)
  pub counted : tally.refused ≡ min (lines_refused lines) 18446744073709551615
  pub unmet : tally.unmet ≡ run.end.unmet

-- the output of these lines, as far as it was written before a fault. If a line lacks memory, or the reader fails, or the
-- script is too large, the output of the lines before was written whole. A failed read, or the size limit, may fall inside a
-- line; that line isn't run
abbrev pub OutBefore : ScriptFault → Option (List ℕ) → Option (List ℕ) → Option (List ℕ) → Option (List ℕ) → List LineRun → Type 0
OutBefore ScriptFault.Memory known left old new lines = Appends old new (lines_out lines)
OutBefore ScriptFault.Write known left old new lines = AppendsSome old new (lines_out lines)
OutBefore ScriptFault.Read known left old new lines = Appends old new (lines_out lines) × ((held : List ℕ) × HasNoFeed held × Consumes known left (lines_bytes lines ++ held))
OutBefore ScriptFault.TooLarge known left old new lines =
    Appends old new (lines_out lines) × ((held : List ℕ) × HasNoFeed held × IfSome known (λ script. take 1048576 script ≡ lines_bytes lines ++ held))

-- the first lines of a script were run, and then a fault ended the run
pub record IsPart (known left old new : Option (List ℕ)) (fault : ScriptFault) : Type 0 where
  pub lines : List LineRun
  pub rest : List ℕ
  pub run : AreRun lines
  pub first : IfSome known (λ script. lines_bytes lines ++ rest ≡ script ++ 10 ∷ [])
  pub out : OutBefore fault known left old new lines

-- the output of a script of known bytes, of which some are left at the end
abbrev pub LinesGoOut : Option (List ℕ) → Option (List ℕ) → Option (List ℕ) → Option (List ℕ) → Result Tally ScriptFault → Type 0
LinesGoOut known left old new result = MatchResult result (IsWhole known old new) (IsPart known left old new)
