-- The beginning of a text: its first n bytes, and the parts that they make with a separator.
use Rattle.std.proofs.Common.{◌≡◌, ℕ, suc, ◌+◌, ◌-◌, ◌<◌, ◌≤◌, true, List, [], ◌∷◌, ◌++◌, length, get_or, take, drop, arith, refl, ap, sym, ◌∙◌, drop-cons}
use Rattle.std.proofs.lemmas.List.{take-append-drop, take_all}
use Rattle.i3c_frame.specs.declared.symbols.Symbol.{Symbol}
use Rattle.i3c_frame.specs.Parts.{is_separator, parts}
use Rattle.i3c_frame.specs.Texts.{text_of}
use Rattle.i3c_frame.proofs.PartLaws.{rest_is}
use Rattle.i3c_frame.proofs.PrintLaws.{parts-printed}

-- the first bytes of a text, one by one
pub take_1 : (text : List ℕ) → 1 ≤ length text → take 1 text ≡ get_or text 0 0 ∷ []
take_1 [] h = absurd (omega arith)
take_1 (a ∷ text) h = refl

pub take_2 : (text : List ℕ) → 2 ≤ length text → take 2 text ≡ get_or text 0 0 ∷ get_or text 1 0 ∷ []
take_2 [] h = absurd (omega arith)
take_2 (a ∷ text) h = ap (λ rest. a ∷ rest) (take_1 text (omega arith))

pub take_3 : (text : List ℕ) → 3 ≤ length text → take 3 text ≡ get_or text 0 0 ∷ get_or text 1 0 ∷ get_or text 2 0 ∷ []
take_3 [] h = absurd (omega arith)
take_3 (a ∷ text) h = ap (λ rest. a ∷ rest) (take_2 text (omega arith))

pub take_4 : (text : List ℕ) → 4 ≤ length text → take 4 text ≡ get_or text 0 0 ∷ get_or text 1 0 ∷ get_or text 2 0 ∷ get_or text 3 0 ∷ []
take_4 [] h = absurd (omega arith)
take_4 (a ∷ text) h = ap (λ rest. a ∷ rest) (take_3 text (omega arith))

pub take_5 : (text : List ℕ) → 5 ≤ length text
    → take 5 text ≡ get_or text 0 0 ∷ get_or text 1 0 ∷ get_or text 2 0 ∷ get_or text 3 0 ∷ get_or text 4 0 ∷ []
take_5 [] h = absurd (omega arith)
take_5 (a ∷ text) h = ap (λ rest. a ∷ rest) (take_4 text (omega arith))

-- the first byte and the n after it
pub take_head : (text : List ℕ) (n : ℕ) → 0 < length text → get_or text 0 0 ∷ take n (drop 1 text) ≡ take (suc n) text
take_head [] n h = absurd (omega arith)
take_head (a ∷ text) n h = refl

-- a text of a few bytes, one by one, or of a first and the others
pub whole_1 : (text : List ℕ) → length text ≡ 1 → get_or text 0 0 ∷ [] ≡ text
whole_1 text long = sym (take_1 text (omega arith)) ∙ take_all 1 text (omega arith)

pub whole_2 : (text : List ℕ) → length text ≡ 2 → get_or text 0 0 ∷ get_or text 1 0 ∷ [] ≡ text
whole_2 text long = sym (take_2 text (omega arith)) ∙ take_all 2 text (omega arith)

pub whole_3 : (text : List ℕ) → length text ≡ 3 → get_or text 0 0 ∷ get_or text 1 0 ∷ get_or text 2 0 ∷ [] ≡ text
whole_3 text long = sym (take_3 text (omega arith)) ∙ take_all 3 text (omega arith)

pub whole_4 : (text : List ℕ) → length text ≡ 4 → get_or text 0 0 ∷ get_or text 1 0 ∷ get_or text 2 0 ∷ get_or text 3 0 ∷ [] ≡ text
whole_4 text long = sym (take_4 text (omega arith)) ∙ take_all 4 text (omega arith)

pub whole_5 : (text : List ℕ) → length text ≡ 5 → get_or text 0 0 ∷ get_or text 1 0 ∷ get_or text 2 0 ∷ get_or text 3 0 ∷ get_or text 4 0 ∷ [] ≡ text
whole_5 text long = sym (take_5 text (omega arith)) ∙ take_all 5 text (omega arith)

pub whole_head : (text : List ℕ) → 0 < length text → get_or text 0 0 ∷ take (length text - 1) (drop 1 text) ≡ text
whole_head text some = take_head text (length text - 1) some ∙ take_all (suc (length text - 1)) text (omega arith)

-- a symbol's text and a separator after it are its part, and what follows has the other parts
pub parts_behind : (text : List ℕ) (n : ℕ) (symbol : Symbol) → n < length text → text_of symbol ≡ take n text → is_separator (get_or text n 0) ≡ true
    → parts text ≡ text_of symbol ∷ parts (take (length text - (n + 1)) (drop (n + 1) text))
parts_behind text n symbol within front ends =
    let cut : drop n text ≡ get_or text n 0 ∷ drop (suc n) text = drop-cons text n 0 within in
    let whole : text ≡ text_of symbol ++ get_or text n 0 ∷ drop (suc n) text = sym (take-append-drop n text) ∙ ap (λ rest. take n text ++ rest) cut ∙ ap (λ part. part ++ get_or text n 0 ∷ drop (suc n) text) (sym front) in
    let next : suc n ≡ n + 1 = omega arith in
    ap parts whole ∙ parts-printed symbol (get_or text n 0) (drop (suc n) text) ends
    ∙ ap (λ rest. text_of symbol ∷ parts rest) (ap (λ k. drop k text) next ∙ sym (rest_is text (n + 1)))
