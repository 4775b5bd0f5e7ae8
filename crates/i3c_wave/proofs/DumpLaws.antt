-- The text of levels, one after another.
use Rattle.std.proofs.Common.{◌≡◌, ◌∙◌, ◌<◌, ◌+◌, ℕ, zero, suc, List, [], ◌∷◌, ◌++◌, ap, append_assoc, arith, drop, get_or, length, sym}
use Rattle.i3c_frame.specs.declared.symbols.Symbol.{Symbol}
use Rattle.i3c_wave.specs.declared.wave.Wave.{Wave}
use Rattle.i3c_wave.specs.Dump.{after_symbol, symbol_dump, symbols_dump}

-- an item by its number begins what is left from there
pub drop_item : {A : Type 0} (xs : List A) (i : ℕ) (x : A) → i < length xs → x ≡ get_or xs i x → drop i xs ≡ x ∷ drop (i + 1) xs
drop_item [] i x within is = absurd (omega arith)
drop_item (y ∷ xs) zero x within is = ap (λ z. z ∷ xs) (sym is)
drop_item (y ∷ xs) (suc i) x within is = let more : suc i + 1 ≡ suc (i + 1) = omega arith in rw more (drop_item xs i x (omega arith) is)

-- what went out, is gathered and is to come, with the next symbol
pub next_symbol : (legacies : ℕ) (wave : Wave) (xs : List Symbol) (i : ℕ) (x : Symbol) (first text all : List ℕ) → i < length xs → x ≡ get_or xs i x
    → all ≡ first ++ (text ++ symbols_dump legacies wave (drop i xs))
    → all ≡ first ++ ((text ++ symbol_dump legacies wave x) ++ symbols_dump legacies (after_symbol legacies wave x) (drop (i + 1) xs))
next_symbol legacies wave xs i x first text all within is before =
    before
    ∙ ap (λ left. first ++ (text ++ symbols_dump legacies wave left)) (drop_item xs i x within is)
    ∙ ap (λ rest. first ++ rest) (sym (append_assoc text (symbol_dump legacies wave x) (symbols_dump legacies (after_symbol legacies wave x) (drop (i + 1) xs))))
