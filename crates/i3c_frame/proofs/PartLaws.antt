-- The parts of a text, one after another.
use Rattle.std.proofs.Common.{◌≡◌, ℕ, suc, ◌+◌, ◌-◌, ◌<◌, ◌≤◌, Bool, true, false, nat_lt, List, [], ◌∷◌, length, get_or, take, drop, filter, Some, None, not, position, unwrap_or, arith, refl, ap, sym, ◌∙◌, lt-ltb, ltb-false, length-drop, add-zero}
use Rattle.std.proofs.Math.Seq.{drop-length, take-length}
use Rattle.std.proofs.lemmas.List.{get_or-drop}
use Rattle.std.proofs.lemmas.List.Folds.{length-prefix_len}
use Rattle.std.proofs.lemmas.List.Quantifiers.{position-Some}
use Rattle.std.proofs.lemmas.List.Sums.{prefix_len-le-length}
use Rattle.std.specs.List.{position_or_len, slice_split}
use Rattle.i3c_frame.specs.Parts.{is_separator, parts}

-- the parts that aren't empty
abbrev filled : List (List ℕ) → List (List ℕ)
filled pieces = filter (λ part. nat_lt 0 (length part)) pieces

parts_is : (text : List ℕ) → parts text ≡ filled (slice_split is_separator text)
unfolding parts
parts_is text = refl

-- a separator at the front parts nothing
parts_past : (byte : ℕ) (text : List ℕ) → is_separator byte ≡ true → parts (byte ∷ text) ≡ parts text
unfolding parts
parts_past byte text here = rw here

-- where the first part begins
abbrev start_len : List ℕ → ℕ
start_len text = position_or_len (λ byte. not (is_separator byte)) text

-- leading separators add no parts
IsSkipped : List ℕ → Type 0
IsSkipped text = parts (drop (start_len text) text) ≡ parts text

parts_from : (text : List ℕ) → IsSkipped text
unfolding IsSkipped
parts_from [] = refl
parts_from (byte ∷ text) = go (parts_from text) (is_separator byte) refl where
  go : IsSkipped text → (b : Bool) → is_separator byte ≡ b → IsSkipped (byte ∷ text)
  go rest true here =
      let next : 1 + start_len text ≡ suc (start_len text) = omega arith in
      rw here (rw next (rest ∙ sym (parts_past byte text here)))
  go rest false here = rw here

-- the pieces after the first one, where it ends at the head
after_piece : List ℕ → List (List ℕ)
after_piece [] = []
after_piece (byte ∷ text) = slice_split is_separator text

-- how long the first piece is
abbrev first_len : List ℕ → ℕ
first_len text = position_or_len is_separator text

-- a byte and the first piece after it
longer : (byte : ℕ) (text : List ℕ) → is_separator byte ≡ false → first_len (byte ∷ text) ≡ suc (first_len text)
longer byte text here = let next : 1 + first_len text ≡ suc (first_len text) = omega arith in rw here next

-- the pieces, the first one apart
IsSplit : List ℕ → Type 0
IsSplit text = slice_split is_separator text ≡ take (first_len text) text ∷ after_piece (drop (first_len text) text)

split_first : (text : List ℕ) → IsSplit text
unfolding after_piece IsSplit
split_first [] = refl
split_first (byte ∷ text) = go (split_first text) (is_separator byte) refl where
  go : IsSplit text → (b : Bool) → is_separator byte ≡ b → IsSplit (byte ∷ text)
  go rest true here = rw here
  go rest false here = rw (longer byte text here) (rw here (rw rest))

-- what follows the first piece has the parts of the pieces after it
IsRest : List ℕ → Type 0
IsRest text = parts (drop (first_len text) text) ≡ filled (after_piece (drop (first_len text) text))

parts_after : (text : List ℕ) → IsRest text
unfolding parts after_piece IsRest
parts_after [] = refl
parts_after (byte ∷ text) = go (parts_after text) (is_separator byte) refl where
  go : IsRest text → (b : Bool) → is_separator byte ≡ b → IsRest (byte ∷ text)
  go rest true here = rw here (rw here)
  go rest false here = rw (longer byte text here) rest

-- a text that begins with a part
parts_first : (text : List ℕ) → 0 < first_len text → parts text ≡ take (first_len text) text ∷ parts (drop (first_len text) text)
unfolding IsSplit IsRest
parts_first text some =
    let piece = take (first_len text) text in
    let rest = drop (first_len text) text in
    let long : nat_lt 0 (length piece) ≡ true = lt-ltb _ _ (omega (arith, some, length-prefix_len (λ byte. not (is_separator byte)) text)) in
    let front : filled (piece ∷ after_piece rest) ≡ piece ∷ filled (after_piece rest) = rw long in
    parts_is text ∙ ap filled (split_first text) ∙ front ∙ ap (λ tail. piece ∷ tail) (sym (parts_after text))

-- the first place, or the length if there is none
position_is : (p : ℕ → Bool) (text : List ℕ) → unwrap_or (position p text) (length text) ≡ position_or_len p text
position_is p text = go (nat_lt (position_or_len p text) (length text)) refl where
  go : (b : Bool) → nat_lt (position_or_len p text) (length text) ≡ b → unwrap_or (position p text) (length text) ≡ position_or_len p text
  go true within = rw within
  go false past = rw past (omega (arith, prefix_len-le-length (λ x. not (p x)) text, ltb-false _ _ past))

-- where no part begins, there is none
pub parts_end : (text : List ℕ) → position (λ byte. not (is_separator byte)) text ≡ None → parts text ≡ []
unfolding parts IsSkipped
parts_end text here =
    let all : start_len text ≡ length text = sym (position_is _ text) ∙ ap (λ place. unwrap_or place (length text)) here in
    sym (parts_from text) ∙ ap (λ start. parts (drop start text)) all ∙ ap parts (drop-length text)

-- a list that begins with a letter
letter_first : (text : List ℕ) → 0 < length text → not (is_separator (get_or text 0 0)) ≡ true → 0 < first_len text
letter_first [] some letter = absurd (omega arith)
letter_first (byte ∷ text) some letter = rw letter (omega arith)

-- the first part of a text, after the separators at its front
parts_step : (text : List ℕ) (start : ℕ) → position (λ byte. not (is_separator byte)) text ≡ Some start
    → let rest = drop start text in let end = unwrap_or (position is_separator rest) (length rest) in parts text ≡ take end rest ∷ parts (drop end rest)
unfolding IsSkipped
parts_step text start here =
    let rest = drop start text in
    let place : start_len text ≡ start = sym (position_is _ text) ∙ ap (λ place. unwrap_or place (length text)) here in
    let skipped : parts rest ≡ parts text = ap (λ start. parts (drop start text)) (sym place) ∙ parts_from text in
    let (within, letter, _) = position-Some (λ byte. not (is_separator byte)) text start 0 here in
    let at : get_or rest 0 0 ≡ get_or text start 0 = get_or-drop start text 0 0 ∙ ap (λ k. get_or text k 0) (add-zero start) in
    let here_letter : not (is_separator (get_or rest 0 0)) ≡ true = ap (λ byte. not (is_separator byte)) at ∙ letter in
    let some : 0 < first_len rest = letter_first rest (omega (arith, length-drop start text)) here_letter in
    sym skipped ∙ parts_first rest some ∙ ap (λ end. take end rest ∷ parts (drop end rest)) (sym (position_is is_separator rest))

-- the rest of a text, as a slice to its end gives it
pub rest_is : (text : List ℕ) (start : ℕ) → take (length text - start) (drop start text) ≡ drop start text
rest_is text start = ap (λ k. take k (drop start text)) (sym (length-drop start text)) ∙ take-length (drop start text)

-- the first part, as it is cut off
pub parts_cut : (text front back : List ℕ) (start end : ℕ) → let rest = take (length text - start) (drop start text) in
    position (λ byte. not (is_separator byte)) text ≡ Some start → end ≡ unwrap_or (position is_separator rest) (length rest)
    → front ≡ take end rest → back ≡ drop end rest → parts text ≡ front ∷ parts back
parts_cut text front back start end here ends begins follows =
    let rest = rest_is text start in
    let stop : end ≡ unwrap_or (position is_separator (drop start text)) (length (drop start text)) = rw rest at ends in
    parts_step text start here
    ∙ ap (λ k. take k (drop start text) ∷ parts (drop k (drop start text))) (sym stop)
    ∙ ap (λ rest. take end rest ∷ parts (drop end rest)) (sym rest)
    ∙ (λ i. sym begins i ∷ parts (sym follows i))

-- past a separator at the front of a text
pub parts_past_first : (text : List ℕ) → 1 ≤ length text → is_separator (get_or text 0 0) ≡ true → parts (take (length text - 1) (drop 1 text)) ≡ parts text
parts_past_first [] some here = absurd (omega arith)
parts_past_first (byte ∷ text) some here = ap parts (rest_is (byte ∷ text) 1) ∙ sym (parts_past byte text here)
