-- The bytes that pairs of digits write, as far as there are places.
use Rattle.std.proofs.Common.{◌≡◌, ◌∙◌, ℕ, zero, suc, ◌-◌, ◌<◌, ◌≤◌, List, [], ◌∷◌, ◌++◌, length, take, Option, Some, None, arith, ap, refl, sym}
use Rattle.std.proofs.lemmas.List.{append_assoc, append-nil, length-append, take_all}
use Rattle.std.specs.Option.{IfSome}
use Rattle.std.specs.Str.Parse.{digits_value}
use Rattle.i3c_lines.specs.Tokens.{pair_values}

-- of no places none is taken
pub none_taken : (n : ℕ) (xs : List ℕ) → n ≤ 0 → take n xs ≡ []
none_taken zero xs h = refl
none_taken (suc n) xs h = absurd (omega arith)

-- no digits write nothing
pub no_pairs : (n : ℕ) (had digits : List ℕ) → length digits ≡ 0 → had ≡ had ++ take n (pair_values digits)
no_pairs zero had [] h = sym (append-nil had)
no_pairs (suc n) had [] h = sym (append-nil had)
no_pairs n had (digit ∷ digits) h = absurd (omega (arith, h))

-- a byte, if there is a place, and then others
taken : (n : ℕ) (x : ℕ) (xs : List ℕ) → take n (x ∷ []) ++ take (n - length (take n (x ∷ []))) xs ≡ take n (x ∷ xs)
taken zero x xs = none_taken (0 - 0) xs (omega arith)
taken (suc zero) x xs = refl
taken (suc (suc n)) x xs = let same : suc (suc n) - 1 ≡ suc n = omega arith in ap (λ k. x ∷ take k xs) same

pub pushed : (most : ℕ) (had now new digits rest : List ℕ) (high low byte : ℕ) → digits ≡ high ∷ low ∷ rest → byte ≡ digits_value 16 (high ∷ low ∷ []) → now ≡ had ++ take (most - length had) (byte ∷ [])
    → new ≡ now ++ take (most - length now) (pair_values rest) → new ≡ had ++ take (most - length had) (pair_values digits)
pushed most had now new digits rest high low byte shape e grown h =
    let places : ℕ = most - length had in
    let one : List ℕ = take places (byte ∷ []) in
    let left : most - length now ≡ places - length one =
    ap (λ xs. most - length xs) grown ∙ (ap (λ k. most - k) (length-append had one) ∙ omega arith) in
    h ∙ (ap (λ k. now ++ take k (pair_values rest)) left
    ∙ (ap (λ xs. xs ++ take (places - length one) (pair_values rest)) grown
    ∙ (append_assoc had one (take (places - length one) (pair_values rest))
    ∙ (ap (λ xs. had ++ xs) (taken places byte (pair_values rest))
    ∙ (ap (λ b. had ++ take places (b ∷ pair_values rest)) e ∙ ap (λ ds. had ++ take places (pair_values ds)) (sym shape))))))

-- the same where the digits that follow are pairs
pub pushed_if : (result : Option (Unit {0})) (most : ℕ) (had now new digits rest : List ℕ) (high low byte : ℕ) → digits ≡ high ∷ low ∷ rest → byte ≡ digits_value 16 (high ∷ low ∷ []) → now ≡ had ++ take (most - length had) (byte ∷ [])
    → IfSome result (λ _. new ≡ now ++ take (most - length now) (pair_values rest)) → IfSome result (λ _. new ≡ had ++ take (most - length had) (pair_values digits))
pushed_if None most had now new digits rest high low byte shape e grown h = tt
pushed_if (Some done) most had now new digits rest high low byte shape e grown h = pushed most had now new digits rest high low byte shape e grown h

-- a byte is pushed where there is a place
pub kept : (most : ℕ) (had now : List ℕ) (byte : ℕ) → length had < most → now ≡ had ++ byte ∷ [] → now ≡ had ++ take (most - length had) (byte ∷ [])
kept most had now byte room grown =
    grown ∙ ap (λ xs. had ++ xs) (sym (take_all (most - length had) (byte ∷ []) (omega arith)))
