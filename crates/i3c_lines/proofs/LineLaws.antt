-- A line and its tokens.
use Rattle.std.proofs.Common.{◌≡◌, ◌∙◌, ℕ, zero, suc, ◌+◌, ◌-◌, ◌<◌, ◌≤◌, true, false, cond, eqb, List, [], ◌∷◌, ◌++◌, Some, None, nat_lt, get_or, drop, length, take, ap, arith, refl, sym}
use Rattle.std.proofs.lemmas.Bool.{eqb-false, eqb-true}
use Rattle.std.proofs.lemmas.List.{length-drop, take_all}
use Rattle.std.proofs.lemmas.List.Quantifiers.{position-Some}
use Rattle.std.proofs.lemmas.List.Sums.{fails_before_first}
use Rattle.std.specs.List.{position, position_or_len}
use Rattle.i3c_lines.specs.Forms.{tokens_of, with_first}

-- there is one token at least
pub some_token : (line : List ℕ) → (token : List ℕ) × (tokens : List (List ℕ)) × (tokens_of line ≡ token ∷ tokens)
some_token [] = ([], [], refl)
some_token (byte ∷ line) =
    let before = some_token line in
    elim (eqb byte 32) as (λ b. (token : List ℕ) × (tokens : List (List ℕ)) × (cond b ([] ∷ tokens_of line) (with_first byte (tokens_of line)) ≡ token ∷ tokens)) [
      | true ↦ ([], tokens_of line, refl)
      | false ↦ (byte ∷ before.0, before.1, ap (with_first byte) before.2)
    ]

-- the line that these tokens are of
abbrev pub line_of : List (List ℕ) → List ℕ
line_of [] = []
line_of (token ∷ []) = token
line_of (token ∷ next ∷ tokens) = token ++ 32 ∷ line_of (next ∷ tokens)

first_more : (byte : ℕ) (token : List ℕ) (tokens : List (List ℕ)) → line_of ((byte ∷ token) ∷ tokens) ≡ byte ∷ line_of (token ∷ tokens)
first_more byte token [] = refl
first_more byte token (next ∷ tokens) = refl

pub line_of_tokens : (line : List ℕ) → line_of (tokens_of line) ≡ line
line_of_tokens [] = refl
line_of_tokens (byte ∷ line) =
    let some = some_token line in
    let token = some.0 in
    let tokens = some.1 in
    let whole : line_of (token ∷ tokens) ≡ line = ap line_of (sym some.2) ∙ line_of_tokens line in
    let test : eqb byte 32 ≡ eqb byte 32 = refl in
    elim (eqb byte 32) as (λ b. eqb byte 32 ≡ b → line_of (cond b ([] ∷ tokens_of line) (with_first byte (tokens_of line))) ≡ byte ∷ line) [
      | true ↦ λ is. ap (λ ws. line_of ([] ∷ ws)) some.2 ∙ (λ i. sym (eqb-true byte 32 is) i ∷ whole i)
      | false ↦ λ _. ap (λ ws. line_of (with_first byte ws)) some.2 ∙ first_more byte token tokens ∙ ap (λ l. byte ∷ l) whole
    ] test

-- a line with these tokens
pub line_is : (line : List ℕ) (tokens : List (List ℕ)) → tokens_of line ≡ tokens → line ≡ line_of tokens
line_is line tokens e = sym (line_of_tokens line) ∙ ap line_of e

not_space : (byte : ℕ) → (byte ≡ 32 → ⊥) → eqb byte 32 ≡ false
not_space byte other = elim (eqb byte 32) as (λ b. eqb byte 32 ≡ b → b ≡ false) [ true ↦ λ is. absurd (other (eqb-true byte 32 is)) | false ↦ λ _. refl ] refl

-- without a space it is one token
pub one_token : (line : List ℕ) → ((k : ℕ) → k < length line → get_or line k 0 ≡ 32 → ⊥) → tokens_of line ≡ line ∷ []
one_token [] none = refl
one_token (byte ∷ line) none =
    ap (λ b. cond b ([] ∷ tokens_of line) (with_first byte (tokens_of line))) (not_space byte (none 0 (omega arith)))
    ∙ ap (with_first byte) (one_token line (λ k within. none (suc k) (omega (arith, within))))

-- the first space ends the first token
pub first_token : (line : List ℕ) (end : ℕ) → end < length line → get_or line end 0 ≡ 32 → ((k : ℕ) → k < end → get_or line k 0 ≡ 32 → ⊥) → tokens_of line ≡ take end line ∷ tokens_of (drop (end + 1) line)
first_token [] end within space none = absurd (omega (arith, within))
first_token (byte ∷ line) zero within space none = ap (λ b. cond (eqb b 32) ([] ∷ tokens_of line) (with_first b (tokens_of line))) space
first_token (byte ∷ line) (suc end) within space none =
    let more : suc (end + 1) ≡ suc end + 1 = omega arith in
    ap (λ b. cond b ([] ∷ tokens_of line) (with_first byte (tokens_of line))) (not_space byte (none 0 (omega arith)))
    ∙ ap (with_first byte) (first_token line end (omega (arith, within)) space (λ k before. none (suc k) (omega (arith, before))))
    ∙ ap (λ n. (byte ∷ take end line) ∷ tokens_of (drop n (byte ∷ line))) more

-- the next token of a line without a token
pub token_left : (line : List ℕ) → tokens_of line ≡ [] → ⊥
token_left line e = let some = some_token line in cc

none_is_some : (place : ℕ) → Some place ≡ None → ⊥
none_is_some place e = cc

lt_false : (a b : ℕ) → nat_lt a b ≡ false → b ≤ a
lt_false a b e = grind (arith, e)

-- a token that a space ends
pub token_to_space : (line : List ℕ) (end : ℕ) → position (λ b. eqb b 32) line ≡ Some end → tokens_of line ≡ take end line ∷ tokens_of (take (length line - (end + 1)) (drop (end + 1) line))
token_to_space line end found =
    let is = position-Some (λ b. eqb b 32) line end 0 found in
    let rest : length (drop (end + 1) line) ≤ length line - (end + 1) = omega (arith, length-drop (end + 1) line) in
    first_token line end is.0 (eqb-true _ 32 is.1) (λ k before. eqb-false _ 32 (is.2 k before)) ∙ ap (λ bs. take end line ∷ tokens_of bs) (sym (take_all (length line - (end + 1)) (drop (end + 1) line) rest))

-- a token that nothing ends
pub last_token : (line : List ℕ) → position (λ b. eqb b 32) line ≡ None → tokens_of line ≡ line ∷ []
last_token line none =
    let place = position_or_len (λ b. eqb b 32) line in
    one_token line (λ k within. elim (nat_lt place (length line)) as (λ b. nat_lt place (length line) ≡ b → get_or line k 0 ≡ 32 → ⊥) [
      | true ↦ λ is. absurd (none_is_some _ (ap (λ b. cond b (Some place) None) (sym is) ∙ none))
      | false ↦ λ is. eqb-false _ 32 (fails_before_first (λ b. eqb b 32) line k 0 (omega (arith, within, lt_false _ _ is)))
    ] refl)
