-- The symbols of a wire, one after another.
use Rattle.std.proofs.Common.{◌≡◌, ◌∙◌, ◌≤◌, ◌-◌, ℕ, List, [], ◌∷◌, ◌++◌, ap, append_assoc, arith, drop, get_or, length, take}
use Rattle.std.proofs.lemmas.List.{take_all}
use Rattle.i3c_frame.specs.declared.symbols.Symbol.{Symbol}
use Rattle.i3c_draw.specs.declared.pen.Pen.{Pen}
use Rattle.i3c_draw.specs.Rows.{after_symbol, after_wire, symbol_text, wire_text}

-- what is written and left to write, after the first of the symbols
pub next_text : (pen new : Pen) (rest : List Symbol) (first : Symbol) (text grown whole : List ℕ) → 1 ≤ length rest → first ≡ get_or rest 0 first
    → text ++ wire_text pen rest ≡ whole → grown ≡ text ++ symbol_text pen first → new ≡ after_symbol pen first
    → grown ++ wire_text new (take (length rest - 1) (drop 1 rest)) ≡ whole
next_text pen new [] first text grown whole within is before grew moved = absurd (omega arith)
next_text pen new (x ∷ xs) first text grown whole within is before grew moved =
    let all : take (length (x ∷ xs) - 1) xs ≡ xs = take_all (length (x ∷ xs) - 1) xs (omega arith) in
    ap (λ left. grown ++ wire_text new left) all
    ∙ ap (λ t. t ++ wire_text new xs) grew
    ∙ ap (λ p. (text ++ symbol_text pen first) ++ wire_text p xs) moved
    ∙ append_assoc text (symbol_text pen first) (wire_text (after_symbol pen first) xs)
    ∙ ap (λ s. text ++ (symbol_text pen s ++ wire_text (after_symbol pen s) xs)) is
    ∙ before

-- where the pen is after all of them
pub next_pen : (pen new end : Pen) (rest : List Symbol) (first : Symbol) → 1 ≤ length rest → first ≡ get_or rest 0 first
    → after_wire pen rest ≡ end → new ≡ after_symbol pen first → after_wire new (take (length rest - 1) (drop 1 rest)) ≡ end
next_pen pen new end [] first within is before moved = absurd (omega arith)
next_pen pen new end (x ∷ xs) first within is before moved =
    let all : take (length (x ∷ xs) - 1) xs ≡ xs = take_all (length (x ∷ xs) - 1) xs (omega arith) in
    ap (λ left. after_wire new left) all ∙ ap (λ p. after_wire p xs) moved ∙ ap (λ s. after_wire (after_symbol pen s) xs) is ∙ before
