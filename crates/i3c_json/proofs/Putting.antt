-- The fields of pieces, put one after another.
use Rattle.std.proofs.Common.{◌≡◌, ◌∙◌, ◌<◌, ℕ, suc, ◌+◌, List, [], ◌∷◌, ◌++◌, ap, arith, get_or, length, refl, take}
use Rattle.std.proofs.Math.Seq.{take-suc}
use Rattle.serde_json.specs.Data.{Members}
use Rattle.i3c_script.specs.declared.piece.Piece.{Piece}
use Rattle.i3c_json.specs.Fields.{field_of, put_field, put_fields}

fields_both : (front pieces : List Piece) (members : Members) → put_fields (front ++ pieces) members ≡ put_fields front (put_fields pieces members)
fields_both [] pieces members = refl
fields_both (piece ∷ front) pieces members = ap (put_field (field_of piece)) (fields_both front pieces members)

-- one more piece, put before those in front of it
pub field_more : (pieces : List Piece) (left : ℕ) (piece : Piece) (members : Members) → left < length pieces → get_or pieces left piece ≡ piece
    → put_fields (take (left + 1) pieces) members ≡ put_fields (take left pieces) (put_field (field_of piece) members)
field_more pieces left piece members within is =
    let next : left + 1 ≡ suc left = omega arith in
    ap (λ n. put_fields (take n pieces) members) next
    ∙ ap (λ l. put_fields l members) (take-suc pieces left piece within ∙ ap (λ p. take left pieces ++ p ∷ []) is)
    ∙ fields_both (take left pieces) (piece ∷ []) members
