-- What a reply comes to, and the refusal that it is.
use Rattle.std.specs.Prelude.{◌≡◌, ◌≢◌, ℕ, List, ◌++◌, Option, Result, Ok, Err, ⊤}
use Rattle.i3c_step.specs.declared.replies.Reply.{Reply}
use Rattle.i3c_log_laws.specs.Behind.{reply_from}
use Rattle.i3c_lines.specs.declared.refusals.Refusal.{Refusal}
use Rattle.i3c_text.specs.declared.line_error.LineError.{LineError}
use Rattle.i3c_script.specs.declared.piece.Piece.{Piece}
use Rattle.i3c_script.specs.declared.replies.Subject.{Subject}
use Rattle.i3c_script.specs.Pieces.{reply_pieces}
use Rattle.i3c_script.specs.Stops.{Ends, reply_refusal}

-- what a line comes to by the bus's reply, and why it is refused, if it is. A frame that is short of memory ends the run, so its reply isn't told
pub record IsTold (subject : Subject) (reply : Reply) (pieces : List Piece) (refused : Option Refusal) : Type 0 where
  pub fed : reply ≢ Reply.OutOfMemory
  pub told : pieces ≡ reply_pieces subject reply
  pub refusal : refused ≡ reply_refusal reply

-- a text is printed behind the old one, and holds this with the refusal; of a line that is short of memory nothing is said
abbrev pub Prints : (List ℕ → Option Refusal → Type 0) → List ℕ → List ℕ → Result (Unit {0}) (LineError Refusal) → Type 0
Prints Is old new result = Ends (λ refused. (said : List ℕ) × (new ≡ old ++ said) × Is said refused) result

-- a reply counts `forgotten` more records, unless the number is too large
abbrev pub Counts : ℕ → Reply → Reply → Result (Unit {0}) (LineError Refusal) → Type 0
Counts forgotten old new (Ok done) = new ≡ reply_from forgotten old
Counts forgotten old new (Err LineError.Memory) = ⊤
Counts forgotten old new (Err (LineError.Refused why)) = ⊥
