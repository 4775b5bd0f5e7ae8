-- The tokens of a line, as they are split.
use Rattle.std.proofs.Common.{◌≡◌, ◌∙◌, ℕ, List, [], ◌∷◌, ap, cond, eqb, refl}
use Rattle.std.specs.List.{onto_first, slice_split}
use Rattle.i3c_lines.specs.Forms.{tokens_of, with_first}

onto : (byte : ℕ) (tokens : List (List ℕ)) → onto_first byte tokens ≡ with_first byte tokens
onto byte [] = refl
onto byte (token ∷ tokens) = refl

-- the tokens of a line are its parts between spaces
pub tokens_split : (line : List ℕ) → slice_split (λ byte. eqb byte 32) line ≡ tokens_of line
tokens_split [] = refl
tokens_split (byte ∷ line) =
    ap (λ ws. cond (eqb byte 32) ([] ∷ ws) (onto_first byte ws)) (tokens_split line)
    ∙ ap (λ ws. cond (eqb byte 32) ([] ∷ tokens_of line) ws) (onto byte (tokens_of line))
