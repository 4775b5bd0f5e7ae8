-- Pieces that are heard one after another.
use Rattle.std.proofs.Common.{◌≡◌, ◌∙◌, ℕ, List, [], ◌∷◌, ◌++◌, Option, Some, None, Result, Ok, Err, ap, refl, sym, append_assoc}
use Rattle.std.proofs.lemmas.List.{append-nil}
use Rattle.std.specs.Prelude.{OnOk}
use Rattle.i3c_lines.specs.declared.refusals.Refusal.{Refusal}
use Rattle.i3c_text.specs.declared.line_error.LineError.{LineError}
use Rattle.i3c_script.specs.declared.piece.Piece.{Piece}
use Rattle.i3c_script.specs.Hearing.{Hears, all_heard}
use Rattle.i3c_script.specs.Pieces.{with_next}
use Rattle.i3c_script.specs.Printed.{piece_text, pieces_text, with_piece}
use Rattle.i3c_script.specs.Telling.{Prints}

module _ {L : Type 0} (heard : L → Piece → L) where
  -- pieces, and then others
  pub heard_both : (before : L) (parts part : List Piece) → all_heard heard before (parts ++ part) ≡ all_heard heard (all_heard heard before parts) part
  heard_both before [] part = refl
  heard_both before (piece ∷ parts) part = heard_both (heard before piece) parts part

  -- pieces that were heard, and more of them
  pub heard_more : (before now new : L) (parts part : List Piece) → now ≡ all_heard heard before parts → new ≡ all_heard heard now part → new ≡ all_heard heard before (parts ++ part)
  heard_more before now new parts part e f = f ∙ ap (λ l. all_heard heard l part) e ∙ sym (heard_both before parts part)

  -- of pieces that are left to hear, some are heard
  pub heard_on : (whole now new : L) (part left : List Piece) → all_heard heard now (part ++ left) ≡ whole → new ≡ all_heard heard now part → all_heard heard new left ≡ whole
  heard_on whole now new part left e f = ap (λ l. all_heard heard l left) f ∙ sym (heard_both now part left) ∙ e

  -- a part is heard, and then what is heard of the rest holds of the whole
  pub heard_behind : {E : Type 0} (r : Result (Unit {0}) E) (before one new : L) (a rest : List Piece) → one ≡ all_heard heard before a → OnOk r (new ≡ all_heard heard one rest) → OnOk r (new ≡ all_heard heard before (a ++ rest))
  heard_behind (Ok done) before one new a rest e f = heard_more before one new a rest e f
  heard_behind (Err fault) before one new a rest e f = f

  -- a weaker property of pieces holds too
  pub hears_by : (Is Of : List Piece → Option Refusal → Type 0) → ((pieces : List Piece) (refused : Option Refusal) → Is pieces refused → Of pieces refused)
      → (before after : L) (result : Result (Unit {0}) (LineError Refusal)) → Hears heard Is before after result → Hears heard Of before after result
  hears_by Is Of of before after (Ok done) (pieces, heard, is) = (pieces, heard, of pieces None is)
  hears_by Is Of of before after (Err (LineError.Refused why)) (pieces, heard, is) = (pieces, heard, of pieces (Some why) is)
  hears_by Is Of of before after (Err LineError.Memory) h = h

-- a text that hears pieces has their texts behind it
pub text_heard : (before : List ℕ) (pieces : List Piece) → all_heard with_piece before pieces ≡ before ++ pieces_text pieces
text_heard before [] = sym (append-nil before)
text_heard before (piece ∷ pieces) = text_heard (before ++ piece_text piece) pieces ∙ append_assoc before (piece_text piece) (pieces_text pieces)

-- a list that hears pieces has them behind it
pub list_heard : (before pieces : List Piece) → all_heard with_next before pieces ≡ before ++ pieces
list_heard before [] = sym (append-nil before)
list_heard before (piece ∷ pieces) = list_heard (before ++ piece ∷ []) pieces ∙ append_assoc before (piece ∷ []) pieces

-- so what a text hears is what is printed
pub printed_by : (Is : List Piece → Option Refusal → Type 0) (Of : List ℕ → Option Refusal → Type 0) → ((pieces : List Piece) (refused : Option Refusal) → Is pieces refused → Of (pieces_text pieces) refused)
    → (before after : List ℕ) (result : Result (Unit {0}) (LineError Refusal)) → Hears with_piece Is before after result → Prints Of before after result
printed_by Is Of of before after (Ok done) (pieces, heard, is) = (pieces_text pieces, heard ∙ text_heard before pieces, of pieces None is)
printed_by Is Of of before after (Err (LineError.Refused why)) (pieces, heard, is) = (pieces_text pieces, heard ∙ text_heard before pieces, of pieces (Some why) is)
printed_by Is Of of before after (Err LineError.Memory) h = h

-- the same where nothing is refused
pub text_on : {E : Type 0} (r : Result (Unit {0}) E) (before after : List ℕ) (pieces : List Piece) → OnOk r (after ≡ all_heard with_piece before pieces) → OnOk r (after ≡ before ++ pieces_text pieces)
text_on (Ok done) before after pieces e = e ∙ text_heard before pieces
text_on (Err fault) before after pieces e = e
