-- What a line of a driven bus is answered.
use Rattle.std.specs.Prelude.{◌≡◌, ◌≢◌, ◌⊎◌, ℕ, ◌+◌, suc, List, [], ◌∷◌, ◌++◌, codes, drop, length, map, min, Option, Some, None, IfSome, Result, MatchResult}
use Rattle.std.specs.Fmt.{decimal}
use Rattle.std.specs.List.{flat_map}
use Rattle.std.specs.Io.KnownBytes.{Appends}
use Rattle.i3c_base.specs.declared.requests.Record.{Record}
use Rattle.i3c_drive.specs.Serving.{AreLinesOf, WentBefore, bytes_of_lines}
use Rattle.i3c_streams.specs.declared.form.Form.{Form}
use Rattle.i3c_json.specs.Objects.{IsLineOf, answer_data}
use Rattle.i3c_lines.specs.declared.command.Command.{Command}
use Rattle.i3c_lines.specs.declared.names.Name.{Name}
use Rattle.i3c_lines.specs.declared.names.Names.{Names}
use Rattle.i3c_lines.specs.declared.refusals.Refusal.{Refusal}
use Rattle.i3c_lines.specs.Capitals.{in_capitals}
use Rattle.i3c_lines.specs.Forms.{HasNoForm, IsCommand, IsSkipped}
use Rattle.i3c_lines.specs.Keeping.{name_of_slot}
use Rattle.i3c_lines.specs.Naming.{letters}
use Rattle.i3c_lines.specs.Refusing.{refusal_text}
use Rattle.i3c_streams.specs.declared.faults.ScriptFault.{ScriptFault}
use Rattle.i3c_streams.specs.declared.tally.Tally.{Tally}
use Rattle.i3c_streams.specs.Outcomes.{HasNoFeed}
use Rattle.i3c_runner.specs.Scripts.{Lead, LineRun, lines_refused}
use Rattle.i3c_script.specs.declared.piece.Piece.{Piece}
use Rattle.i3c_script.specs.declared.stage.Stage.{Stage}
use Rattle.i3c_script.specs.Obeying.{ComesTo, IsBegun, ScriptState}
use Rattle.i3c_script.specs.Pieces.{AreAsking}
use Rattle.i3c_script.specs.Printed.{numbered_text, pieces_text}

-- the log of a script's bus; before the bus it is empty
abbrev pub log_at : Stage → List Record
log_at (Stage.Before legacies) = []
log_at (Stage.Running ran) = ran.state.records

abbrev pub log_of : ScriptState → List Record
log_of state = log_at state.stage

-- how many records have left that log
abbrev pub forgotten_at : Stage → ℕ
forgotten_at (Stage.Before legacies) = 0
forgotten_at (Stage.Running ran) = ran.settings.forgotten

abbrev pub forgotten_of : ScriptState → ℕ
forgotten_of state = forgotten_at state.stage

-- the last line of an answer: the line's number, and why the line was refused, if it was
abbrev pub last_line : ℕ → Option Refusal → List ℕ
last_line number None = codes "ok " ++ (decimal number ++ 10 ∷ [])
last_line number (Some why) = codes "refused " ++ (decimal number ++ (codes " " ++ (refusal_text why ++ 10 ∷ [])))

-- the names of those whose requests the next frame would meet; before the bus there are none
abbrev pub AsksAt : Stage → Names → List Name → Type 0
AsksAt (Stage.Before legacies) names asking = asking ≡ []
AsksAt (Stage.Running ran) names asking = AreAsking ran.state (name_of_slot names) asking

abbrev pub Asks : ScriptState → List Name → Type 0
Asks state asking = AsksAt state.stage state.names asking

-- those names, where they have changed
abbrev pub IsNews : List Name → List Name → Option (List Name) → Type 0
IsNews before after news = ((before ≡ after) × (news ≡ None)) ⊎ ((before ≢ after) × (news ≡ Some after))

-- how a line changed the devices that ask
pub record IsChange (old new : ScriptState) (news : Option (List Name)) : Type 0 where
  pub before : List Name
  pub after : List Name
  pub asked : Asks old before
  pub asks : Asks new after
  pub is : IsNews before after news

-- names, each behind a space
abbrev pub names_text : List Name → List ℕ
names_text names = flat_map (λ name. codes " " ++ letters name) names

-- the line of names that have changed
abbrev pub news_text : Option (List Name) → List ℕ
news_text None = []
news_text (Some names) = codes "asking" ++ (names_text names ++ 10 ∷ [])

-- the first of the records that a line added behind the first `count`, with its number
abbrev pub first_added : ℕ → List Record → Option (ℕ × Record)
first_added count [] = None
first_added count (added ∷ more) = Some (suc count, added)

-- an answer in its form: the pieces that the line comes to, the records that it added behind the first `count`, the devices
-- that ask, if they have changed, and its result. As lines the texts of these follow one another, and the last line has the
-- line's number. As an object they are its fields
abbrev pub IsWritten : Form → ℕ → List Piece → ℕ → List Record → Option (List Name) → Option Refusal → List ℕ → Type 0
IsWritten Form.Lines number pieces count added news refused answer = answer ≡ pieces_text pieces ++ (numbered_text (suc count) added ++ (news_text news ++ last_line number refused))
IsWritten Form.Json number pieces count added news refused answer = IsLineOf (answer_data number refused pieces (first_added count added) news) answer

-- a driven line that was run: its bytes without the line feed, the pieces that it came to, and why it was refused, if it was
pub record DrivenRun : Type 0 where
  pub line : List ℕ
  pub pieces : List Piece
  pub refused : Option Refusal

-- the answer to a line; what it adds to the log has the numbers behind all that were recorded before: a line that adds a record
-- lets none go
abbrev pub IsAnswered : Form → ℕ → ScriptState → DrivenRun → ScriptState → List ℕ → Type 0
IsAnswered form number old run new answer =
    (news : Option (List Name)) × IsChange old new news × IsWritten form number run.pieces (forgotten_of new + length (log_of old)) (drop (length (log_of old)) (log_of new)) news run.refused answer

-- the line of a script that a driven line stands for: itself, if it has a form, and otherwise the same in capitals
abbrev pub StandsFor : List ℕ → List ℕ → Type 0
StandsFor line written = ((HasNoForm line → ⊥) × (written ≡ line)) ⊎ (HasNoForm line × (written ≡ in_capitals line))

-- the pieces that one line comes to, why it is refused, if it is, and where the script is after it. A line without a form is
-- refused; an empty line and a comment do nothing; any other line does what its command does
abbrev pub LineComesTo : ScriptState → List ℕ → List Piece → Option Refusal → ScriptState → Type 0
LineComesTo old line pieces refused new = (HasNoForm line × (pieces ≡ []) × (refused ≡ Some Refusal.BadLine) × (new ≡ old))
    ⊎ (IsSkipped line × (pieces ≡ []) × (refused ≡ None) × (new ≡ old))
    ⊎ ((command : Command) × IsCommand line command × ComesTo old.stage old.names command pieces refused new)

-- a driven line does what the line that it stands for does in a script
abbrev pub DrivenDoes : ScriptState → List ℕ → List Piece → Option Refusal → ScriptState → Type 0
DrivenDoes old line pieces refused new = (written : List ℕ) × StandsFor line written × LineComesTo old written pieces refused new

-- one line was run, and the script went from one state to another
pub record IsDrivenRun (old : ScriptState) (run : DrivenRun) (new : ScriptState) : Type 0 where
  pub one : HasNoFeed run.line
  pub does : DrivenDoes old run.line run.pieces run.refused new

-- lines, counted from this number on, were run and answered so
abbrev pub AreAnswered : Form → ℕ → ScriptState → List DrivenRun → ScriptState → List ℕ → Type 0
AreAnswered form number old [] new answers = (new ≡ old) × (answers ≡ [])
AreAnswered form number old (run ∷ rest) new answers = (mid : ScriptState) × IsDrivenRun old run mid
    × ((answer : List ℕ) × (later : List ℕ) × IsAnswered form number old run mid answer × (answers ≡ answer ++ later) × AreAnswered form (suc number) mid rest new later)

-- a driven line that was run, with what it prints in a script
abbrev pub as_printed : DrivenRun → LineRun
as_printed run = record { line = run.line; said = pieces_text run.pieces; refused = run.refused }

-- the lines of driven runs
abbrev pub lines_of : List DrivenRun → List (List ℕ)
lines_of runs = map (λ run. run.line) runs

-- how many driven lines were refused
abbrev pub driven_refused : List DrivenRun → ℕ
driven_refused lines = lines_refused (map as_printed lines)

-- each line of the input was run from a script's start, and all answers went out
pub record IsDriven (form : Form) (known old new : Option (List ℕ)) (tally : Tally) : Type 0 where
  pub lines : List DrivenRun
  pub start : ScriptState
  pub end : ScriptState
  pub answers : List ℕ
  pub begun : IsBegun start
  pub answered : AreAnswered form 1 start lines end answers
  pub all : IfSome known (λ input. AreLinesOf input (lines_of lines))
  pub out : Appends old new answers
  pub counted : tally.refused ≡ min (driven_refused lines) 18446744073709551615

-- the first lines of the input were run and answered, and then a fault ended the run
pub record IsDrivenPart (form : Form) (known old new : Option (List ℕ)) (fault : ScriptFault) : Type 0 where
  pub lines : List DrivenRun
  pub start : ScriptState
  pub end : ScriptState
  pub answers : List ℕ
  pub rest : List ℕ
  pub begun : IsBegun start
  pub answered : AreAnswered form 1 start lines end answers
  pub first : IfSome known (λ input. bytes_of_lines (lines_of lines) ++ rest ≡ input ++ 10 ∷ [])
  pub out : WentBefore fault old new answers

-- what goes out to another program that sends these lines
abbrev pub AnswersGoOut : Form → Option (List ℕ) → Option (List ℕ) → Option (List ℕ) → Result Tally ScriptFault → Type 0
AnswersGoOut form known old new result = MatchResult result (IsDriven form known old new) (IsDrivenPart form known old new)

-- these lines of a script are the ones that driven lines mean, and print what those come to
abbrev pub StandFor : List DrivenRun → List LineRun → Type 0
StandFor [] script = script ≡ []
StandFor (run ∷ rest) script =
    (one : LineRun) × (more : List LineRun) × (script ≡ one ∷ more) × StandsFor run.line one.line × (one.said ≡ pieces_text run.pieces) × (one.refused ≡ run.refused) × StandFor rest more

-- Answered lines have the effect of the script's lines that they mean
abbrev pub AnsweredLinesLead : Type 0
AnsweredLinesLead = (form : Form) (number : ℕ) (old : ScriptState) (lines : List DrivenRun) (new : ScriptState) (answers : List ℕ) → AreAnswered form number old lines new answers → (script : List LineRun) × StandFor lines script × Lead old script new
