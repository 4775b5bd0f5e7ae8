-- A line's first token, and the text behind it.
use Rattle.std.proofs.Common.{◌≡◌, ◌∙◌, ℕ, zero, suc, ◌+◌, ◌-◌, ◌<◌, ◌≤◌, true, false, cond, eqb, eq-zero-or-pos, inl, inr, List, [], ◌∷◌, ◌++◌, Option, Some, None, All, get_or, drop, length, take, ap, arith, refl, sym, subst}
use Rattle.std.proofs.lemmas.Bool.{eqb-true}
use Rattle.std.proofs.lemmas.List.{drop-drop, drop_all, get_or-take, length-append, length-take-le, take_all}
use Rattle.std.proofs.Math.Seq.{drop-append_seam, take-append_seam}
use Rattle.i3c_lines.specs.Forms.{tokens_of, with_first}
use Rattle.i3c_lines.specs.Parsing.{joined, tokens_in}
use Rattle.i3c_text.specs.Digits.{IsHexDigit}
use Rattle.i3c_lines.specs.Tokens.{AreBytes, IsName, IsNameLetter}
use Rattle.i3c_lines.proofs.LineLaws.{first_token, one_token, some_token}

pub take_joined : (token : List ℕ) (rest : Option (List ℕ)) → take (length token) (joined token rest) ≡ token
take_joined token None = take_all (length token) token (omega arith)
take_joined token (Some rest) = take-append_seam token (32 ∷ rest)

pub drop_joined : (token : List ℕ) (rest : Option (List ℕ)) → drop (length token) (joined token rest) ≡ joined [] rest
drop_joined token None = drop_all (length token) token (omega arith)
drop_joined token (Some rest) = drop-append_seam token (32 ∷ rest)

pub joined_length : (token : List ℕ) (rest : Option (List ℕ)) → length token ≤ length (joined token rest)
joined_length token None = omega arith
joined_length token (Some rest) = omega (arith, length-append token (32 ∷ rest))

-- a byte of a token is a byte of its line
pub in_token : (token : List ℕ) (rest : Option (List ℕ)) (k : ℕ) → k < length token → get_or (joined token rest) k 0 ≡ get_or token k 0
in_token token rest k within = sym (get_or-take (length token) (joined token rest) k 0 within) ∙ ap (λ w. get_or w k 0) (take_joined token rest)

-- the byte behind a token, if there is one, is a space
pub behind_token : (token : List ℕ) (rest : Option (List ℕ)) → length token < length (joined token rest) → get_or (joined token rest) (length token) 0 ≡ 32
behind_token token None past = absurd (omega (arith, past))
behind_token [] (Some rest) past = refl
behind_token (byte ∷ token) (Some rest) past = behind_token token (Some rest) (omega (arith, length-append token (32 ∷ rest)))

not_letter : IsNameLetter 32 → ⊥
not_letter is = grind (arith, is)

-- a name in front of a line is as long as the letters are
pub name_ends : (line token : List ℕ) (rest : Option (List ℕ)) (n : ℕ) → IsName 16 token → line ≡ joined token rest → n ≤ length line → All IsNameLetter (take n line)
    → (n < 16 → n < length line → IsNameLetter (get_or line n 0) → ⊥) → n ≡ length token
name_ends line token rest n is e within letters longest =
    let long : length token ≤ length line = subst (λ l. length token ≤ length l) (sym e) (joined_length token rest) in
    elim (eq-zero-or-pos (length token - n)) [
      | inr more ↦
          let here : get_or line n 0 ≡ get_or token n 0 = ap (λ l. get_or l n 0) e ∙ in_token token rest n (omega (arith, more)) in
          absurd (longest (omega (arith, more, is.1)) (omega (arith, more, long)) (subst IsNameLetter (sym here) (is.2 n 0 (omega (arith, more)))))
      | inl few ↦
          elim (eq-zero-or-pos (n - length token)) [
            | inl same ↦ omega (arith, few, same)
            | inr past ↦
                let whole = length-take-le n line within in
                let inside : length token < length (joined token rest) = subst (λ l. length token < length l) e (omega (arith, past, within)) in
                let space : get_or (take n line) (length token) 0 ≡ 32 = get_or-take n line (length token) 0 (omega (arith, past)) ∙ ap (λ l. get_or l (length token) 0) e ∙ behind_token token rest inside in
                absurd (not_letter (subst IsNameLetter space (letters (length token) 0 (omega (arith, whole, past)))))
          ]
    ]

-- a token without a space
abbrev pub HasNoSpace : List ℕ → Type 0
HasNoSpace token = (k : ℕ) → k < length token → get_or token k 0 ≡ 32 → ⊥

pub hex_no_space : (token : List ℕ) → All IsHexDigit token → HasNoSpace token
hex_no_space token digits k within space = let digit : IsHexDigit 32 = subst IsHexDigit space (digits k 0 within) in grind (arith, digit)

pub name_no_space : (token : List ℕ) → IsName 16 token → HasNoSpace token
name_no_space token is k within space = not_letter (subst IsNameLetter space (is.2 k 0 within))

pub pairs_no_space : (digits : List ℕ) → AreBytes digits → HasNoSpace digits
pairs_no_space [] are k within space = omega (arith, within)
pairs_no_space (high ∷ []) are k within space = are
pairs_no_space (high ∷ low ∷ digits) are zero within space = let digit : IsHexDigit 32 = subst IsHexDigit space are.0 in grind (arith, digit)
pairs_no_space (high ∷ low ∷ digits) are (suc zero) within space = let digit : IsHexDigit 32 = subst IsHexDigit space are.1 in grind (arith, digit)
pairs_no_space (high ∷ low ∷ digits) are (suc (suc k)) within space = pairs_no_space digits are.2 k (omega (arith, within)) space

after_space : (token rest : List ℕ) → drop (length token + 1) (token ++ 32 ∷ rest) ≡ rest
after_space token rest = sym (drop-drop 1 (length token) (token ++ 32 ∷ rest)) ∙ ap (drop 1) (drop_joined token (Some rest))

-- the tokens of a line by its first
pub joined_tokens : (token : List ℕ) (rest : Option (List ℕ)) → HasNoSpace token → tokens_of (joined token rest) ≡ token ∷ tokens_in rest
joined_tokens token None none = one_token token none
joined_tokens token (Some rest) none =
    let long = length-append token (32 ∷ rest) in
    first_token (joined token (Some rest)) (length token) (omega (arith, long)) (behind_token token (Some rest) (omega (arith, long))) (λ k before space. none k before (sym (in_token token (Some rest) k before) ∙ space))
    ∙ (λ i. take_joined token (Some rest) i ∷ tokens_of (after_space token rest i))

more_joined : (byte : ℕ) (token : List ℕ) (rest : Option (List ℕ)) → byte ∷ joined token rest ≡ joined (byte ∷ token) rest
more_joined byte token None = refl
more_joined byte token (Some rest) = refl

-- a line is its first token, and the line of the tokens behind it
pub split_tokens : (line token : List ℕ) (tokens : List (List ℕ)) → tokens_of line ≡ token ∷ tokens → (rest : Option (List ℕ)) × (line ≡ joined token rest) × (tokens ≡ tokens_in rest)
split_tokens [] token tokens e = (None, cc, cc)
split_tokens (byte ∷ line) token tokens e =
    let some = some_token line in
    let before = split_tokens line some.0 some.1 some.2 in
    elim (eqb byte 32) as (λ b. eqb byte 32 ≡ b → cond b ([] ∷ tokens_of line) (with_first byte (tokens_of line)) ≡ token ∷ tokens → (rest : Option (List ℕ)) × (byte ∷ line ≡ joined token rest) × (tokens ≡ tokens_in rest)) [
      | true ↦ λ is same.
          let first : [] ≡ token = cc in
          let then : tokens ≡ tokens_of line = cc in
          (Some line, (λ i. eqb-true byte 32 is i ∷ line) ∙ ap (λ w. w ++ 32 ∷ line) first, then)
      | false ↦ λ _ same.
          let both : (byte ∷ some.0) ∷ some.1 ≡ token ∷ tokens = ap (with_first byte) (sym some.2) ∙ same in
          let first : byte ∷ some.0 ≡ token = cc in
          let then : some.1 ≡ tokens = cc in
          (before.0, ap (λ l. byte ∷ l) before.1 ∙ more_joined byte some.0 before.0 ∙ ap (λ w. joined w before.0) first, sym then ∙ before.2)
    ] refl e
