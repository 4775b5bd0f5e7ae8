-- What a listener is behind the pieces of a line.
use Rattle.std.specs.Prelude.{◌≡◌, List, [], ◌∷◌, Option, Result}
use Rattle.i3c_lines.specs.declared.refusals.Refusal.{Refusal}
use Rattle.i3c_text.specs.declared.line_error.LineError.{LineError}
use Rattle.i3c_script.specs.declared.piece.Piece.{Piece}
use Rattle.i3c_script.specs.Stops.{Ends}

-- a listener that hears these pieces, one after another
abbrev pub all_heard : {L : Type 0} → (L → Piece → L) → L → List Piece → L
all_heard heard old [] = old
all_heard heard old (piece ∷ rest) = all_heard heard (heard old piece) rest

-- a listener hears the pieces of a line, for which this holds with the refusal; of a line that is short of memory nothing is said
abbrev pub Hears : {L : Type 0} → (L → Piece → L) → (List Piece → Option Refusal → Type 0) → L → L → Result (Unit {0}) (LineError Refusal) → Type 0
Hears heard Is old new result = Ends (λ refused. (pieces : List Piece) × (new ≡ all_heard heard old pieces) × Is pieces refused) result
