-- What a reader of an answer's object finds.
use Rattle.std.specs.Prelude.{◌≡◌, ℕ, true, List, [], ◌∷◌, bytes_eq, codes, option_map, Option, Some, None, if◌then◌else◌}
use Rattle.serde_json.specs.Data.{Data, boolean, number, unsigned}
use Rattle.serde_json.specs.Find.{get}
use Rattle.i3c_base.specs.declared.requests.Record.{Record}
use Rattle.i3c_lines.specs.declared.names.Name.{Name}
use Rattle.i3c_lines.specs.declared.refusals.Refusal.{Refusal}
use Rattle.i3c_lines.specs.Refusing.{refusal_token}
use Rattle.i3c_script.specs.declared.piece.Piece.{Piece}
use Rattle.i3c_text.specs.Hex.{byte_text}
use Rattle.i3c_json.specs.declared.aside.Aside.{Aside}
use Rattle.i3c_json.specs.declared.told.Told.{Told}
use Rattle.i3c_json.specs.declared.verdict.Verdict.{Verdict}
use Rattle.i3c_json.specs.Fields.{field_of}
use Rattle.i3c_json.specs.Objects.{answer_data, aside_field, refusal_address, told_data}
use Rattle.i3c_json.specs.Values.{text_data, unmet_data}

-- `ok` is there only where the line was done
abbrev pub ok_of : Option Refusal → Option Data
ok_of None = Some (boolean true)
ok_of (Some why) = None

-- this object has the line's number, and says whether the line was done, or why not
pub record TellsOutcome (count : ℕ) (refused : Option Refusal) (answered : Data) : Type 0 where
  pub line : get (codes "line") answered ≡ Some (number (unsigned count))
  pub ok : get (codes "ok") answered ≡ ok_of refused
  pub why : get (codes "refused") answered ≡ option_map (λ why. text_data (refusal_token why)) refused

-- An answer's object tells the outcome, whatever other fields it has.
abbrev pub ObjectsTellOutcomes : Type 0
ObjectsTellOutcomes = (count : ℕ) (refused : Option Refusal) (pieces : List Piece) (added : Option (ℕ × Record)) (asking : Option (List Name)) → TellsOutcome count refused (answer_data count refused pieces added asking)

-- the value of a piece's field, if the field has this name, and otherwise that of a later piece
abbrev pub value_or : List ℕ → Option (List ℕ × Data) → Option Data → Option Data
value_or name None later = later
value_or name (Some field) later = if bytes_eq name field.0 then Some field.1 else later

-- what the first piece says that fills the field of this name
abbrev pub first_value : List ℕ → List Piece → Option Data
first_value name [] = None
first_value name (piece ∷ rest) = value_or name (field_of piece) (first_value name rest)

-- An answer's object has in the field of a piece what the first such piece of the line says, and only then
abbrev pub ObjectsTellPieces : Type 0
ObjectsTellPieces = (piece : Piece) (name : List ℕ) (value : Data) → field_of piece ≡ Some (name, value)
    → (count : ℕ) (refused : Option Refusal) (pieces : List Piece) (added : Option (ℕ × Record)) (asking : Option (List Name)) → get name (answer_data count refused pieces added asking) ≡ first_value name pieces

-- `ok` is there only where the line was done
abbrev pub done_of : Verdict → Option Data
done_of Verdict.Done = Some (boolean true)
done_of (Verdict.Refused why) = None
done_of (Verdict.Named name) = None
done_of (Verdict.Unmet line there) = None

-- the name of the reason why a line isn't done
abbrev pub reason_of : Verdict → Option (List ℕ)
reason_of Verdict.Done = None
reason_of (Verdict.Refused why) = Some (refusal_token why)
reason_of (Verdict.Named name) = Some name.now
reason_of (Verdict.Unmet line there) = Some (codes "Unmet")

-- the address that the reason is about
abbrev pub address_of : Verdict → Option ℕ
address_of Verdict.Done = None
address_of (Verdict.Refused why) = refusal_address why
address_of (Verdict.Named name) = None
address_of (Verdict.Unmet line there) = None

-- the line whose expectation doesn't hold, and what is there instead
abbrev pub unmet_of : Verdict → Option Data
unmet_of Verdict.Done = None
unmet_of (Verdict.Refused why) = None
unmet_of (Verdict.Named name) = None
unmet_of (Verdict.Unmet line there) = Some (unmet_data line there.now)

-- this object has the line's number, and says how the line ended
pub record TellsVerdict (count : ℕ) (verdict : Verdict) (answered : Data) : Type 0 where
  pub line : get (codes "line") answered ≡ Some (number (unsigned count))
  pub ok : get (codes "ok") answered ≡ done_of verdict
  pub why : get (codes "refused") answered ≡ option_map text_data (reason_of verdict)
  pub about : get (codes "about") answered ≡ option_map (λ a. text_data (byte_text a)) (address_of verdict)
  pub unmet : get (codes "unmet") answered ≡ unmet_of verdict

-- the value of the field of this name, if the answer says this besides
abbrev pub aside_value : List ℕ → Aside → Option Data
aside_value name aside = value_or name (aside_field aside) None

-- each of these fields is in this object exactly where the answer says it besides, with the value that it says
pub record TellsAside (aside : Aside) (answered : Data) : Type 0 where
  pub happened : get (codes "happened") answered ≡ aside_value (codes "happened") aside
  pub due : get (codes "due") answered ≡ aside_value (codes "due") aside
  pub order : get (codes "order") answered ≡ aside_value (codes "order") aside
  pub all : get (codes "all") answered ≡ aside_value (codes "all") aside
  pub tried : get (codes "tried") answered ≡ aside_value (codes "tried") aside
  pub script : get (codes "script") answered ≡ aside_value (codes "script") aside
  pub choices : get (codes "choices") answered ≡ aside_value (codes "choices") aside
  pub same : get (codes "same") answered ≡ aside_value (codes "same") aside
  pub known : get (codes "known") answered ≡ aside_value (codes "known") aside

-- The object of an answer to a program that meets every order tells how the line ended, whatever other fields it has.
abbrev pub ToldObjectsTellVerdicts : Type 0
ToldObjectsTellVerdicts = (told : Told) → TellsVerdict told.number told.verdict (told_data told)

-- It tells what the answer says besides.
abbrev pub ToldObjectsTellAsides : Type 0
ToldObjectsTellAsides = (told : Told) → TellsAside told.aside (told_data told)

-- It has in the field of a piece what the first such piece of the line says, and only then.
abbrev pub ToldObjectsTellPieces : Type 0
ToldObjectsTellPieces = (piece : Piece) (name : List ℕ) (value : Data) → field_of piece ≡ Some (name, value)
    → (told : Told) → get name (told_data told) ≡ first_value name told.pieces.now
