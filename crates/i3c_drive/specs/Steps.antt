-- How the lines of a driven bus are answered, one after another.
use Rattle.std.specs.Prelude.{◌≡◌, ℕ, ◌+◌, Bool, true, false, List, [], drop, min, Option, Some, None, Result}
use Rattle.i3c_drive.specs.declared.driver.Driver.{Driver}
use Rattle.i3c_drive.specs.declared.interpreter.Interpreter.{Interpreter}
use Rattle.i3c_streams.specs.declared.form.Form.{Form}
use Rattle.i3c_drive.specs.Answers.{Asks, DrivenDoes, IsAnswered, IsNews, IsWritten, forgotten_of, log_of}
use Rattle.i3c_lines.specs.declared.names.Name.{Name}
use Rattle.i3c_lines.specs.declared.refusals.Refusal.{Refusal}
use Rattle.i3c_runner.specs.Scripts.{refusals_of}
use Rattle.i3c_script.specs.declared.piece.Piece.{Piece}
use Rattle.i3c_script.specs.Hearing.{Hears}
use Rattle.i3c_script.specs.Obeying.{ScriptState, script}
use Rattle.i3c_script.specs.Printed.{pieces_text}
use Rattle.i3c_script.specs.Stops.{Ends}
use Rattle.i3c_text.specs.declared.line_error.LineError.{LineError}

-- where the script of an interpreter is
abbrev pub position : Interpreter → ScriptState
position interpreter = script interpreter.stage interpreter.names

-- where the driver's script is
abbrev pub state : Driver → ScriptState
state driver = position driver.interpreter

-- the result of a line, with a listener before and after it: a mark has no form here
abbrev pub Reads : {L : Type 0} → (L → Piece → L) → ScriptState → List ℕ → L → L → Result (Unit {0}) (LineError Refusal) → ScriptState → Type 0
Reads heard old line before after result new = Hears heard (λ pieces refused. DrivenDoes old line pieces refused new) before after result

-- a driver in this form has heard these pieces, and keeps what the form is made of: their text, or themselves
abbrev pub HasHeard : Form → List Piece → Driver → List ℕ → Type 0
HasHeard Form.Lines pieces driver text = text ≡ pieces_text pieces
HasHeard Form.Json pieces driver text = (text ≡ []) × (driver.pieces ≡ pieces)

-- the result of a line, of which the driver has heard the pieces
abbrev pub Obeyed : Form → ScriptState → List ℕ → Driver → List ℕ → Result (Unit {0}) (LineError Refusal) → Type 0
Obeyed form old line new text result = Ends (λ refused. (pieces : List Piece) × HasHeard form pieces new text × DrivenDoes old line pieces refused (state new)) result

-- the driver knows the devices that ask
abbrev pub Knows : Driver → Type 0
Knows driver = Asks (state driver) driver.asked.items

-- a line was run, and this is its answer
pub record IsAnswer (number : ℕ) (line : List ℕ) (old new : Driver) (answer : List ℕ) : Type 0 where
  pub pieces : List Piece
  pub refused : Option Refusal
  pub does : DrivenDoes (state old) line pieces refused (state new)
  pub text : IsAnswered old.form number (state old) (record { line = line; pieces = pieces; refused = refused }) (state new) answer
  pub knows : Knows new
  pub form : new.form ≡ old.form
  pub count : new.refused ≡ min (old.refused + refusals_of refused) 18446744073709551615

-- a driver that knows the devices that ask answers a line so
abbrev pub AnswersSo : Driver → ℕ → List ℕ → List ℕ → Driver → Type 0
AnswersSo old number line answer new = Knows old → IsAnswer number line old new answer

-- the names of the devices that ask, if they have changed
abbrev pub news_of : Bool → List Name → Option (List Name)
news_of true names = Some names
news_of false names = None

-- the driver knows the devices that ask now, and whether they have changed
abbrev pub Asked : Driver → Driver → Bool → Type 0
Asked old new changed = Asks (state old) new.asked.items × IsNews old.asked.items new.asked.items (news_of changed new.asked.items)

-- the answer to a line that came to these pieces is whole
pub record Closes (number count : ℕ) (pieces : List Piece) (refused : Option Refusal) (old new : Driver) (answer : List ℕ) : Type 0 where
  pub news : Option (List Name)
  pub told : IsWritten old.form number pieces (forgotten_of (state old) + count) (drop count (log_of (state old))) news refused answer
  pub is : IsNews old.asked.items new.asked.items news
  pub asks : Asks (state old) new.asked.items
