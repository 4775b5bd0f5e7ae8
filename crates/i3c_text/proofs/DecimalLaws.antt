-- Decimal digits, as numbers are printed.
use Rattle.std.proofs.Common.{◌≡◌, ◌∙◌, ℕ, zero, suc, ◌+◌, ◌-◌, ◌*◌, ◌/◌, ◌%◌, ◌^◌, ◌<◌, ◌≤◌, Bool, true, ◌&&◌, T, eqb, eqb→eq, eq-zero-or-pos, inl, inr, List, [], ◌∷◌, ◌++◌, get_or, ap, append_assoc, arith, sym}
use Rattle.std.proofs.lemmas.Fmt.{decimal_digit, decimal_step}
use lib.Ieee.Fits.{and_l, and_r}
use Rattle.std.specs.Fmt.{decimal}
use Rattle.i3c_text.specs.declared.numerals.TheConstants.{TENS}

-- the pairs of the table are the digits of their numbers
abbrev are_tens : ℕ → Bool
are_tens zero = true
are_tens (suc n) = (eqb (get_or TENS (2 * n) 0) (48 + n / 10) && eqb (get_or TENS (2 * n + 1) 0) (48 + n % 10)) && are_tens n

tens_below : (n number : ℕ) → T (are_tens n) → number < n → (get_or TENS (2 * number) 0 ≡ 48 + number / 10) × (get_or TENS (2 * number + 1) 0 ≡ 48 + number % 10)
tens_below zero number t h = absurd (omega arith)
tens_below (suc n) number t h =
    elim (eq-zero-or-pos (n - number)) [
      | inl z ↦
          let e : number ≡ n = omega arith in
          let both = and_l _ (are_tens n) t in
          rw e ((eqb→eq _ _ (and_l _ _ both), eqb→eq _ _ (and_r _ _ both)))
      | inr g ↦ tens_below n number (and_r _ (are_tens n) t) (omega arith)
    ]

pub tens_at : (number : ℕ) → number < 100 → get_or TENS (2 * number) 0 ≡ 48 + number / 10
tens_at number h = (tens_below 100 number tt h).0

pub ones_at : (number : ℕ) → number < 100 → get_or TENS (2 * number + 1) 0 ≡ 48 + number % 10
ones_at number h = (tens_below 100 number tt h).1

-- two digits are pushed, one after the other
pub two_pushed : (old mid new : List ℕ) (high low tens ones : ℕ) → mid ≡ old ++ high ∷ [] → new ≡ mid ++ low ∷ [] → high ≡ tens → low ≡ ones → new ≡ old ++ tens ∷ ones ∷ []
two_pushed old mid new high low tens ones first then at_tens at_ones =
    then ∙ ap (λ t. t ++ low ∷ []) first ∙ append_assoc old (high ∷ []) (low ∷ []) ∙ (λ t. old ++ at_tens t ∷ at_ones t ∷ [])

-- a number of one digit
pub one_digit : (old new : List ℕ) (n : ℕ) → n < 10 → new ≡ old ++ (48 + n) ∷ [] → new ≡ old ++ decimal n
one_digit old new n small e = e ∙ ap (λ ds. old ++ ds) (sym (decimal_digit n small))

-- the two digits of a number, with the text before them
pub two_digits : (n : ℕ) → 10 ≤ n → n < 100 → decimal n ≡ (48 + n / 10) ∷ (48 + n % 10) ∷ []
two_digits n more less = decimal_step n more (omega arith) ∙ ap (λ ds. ds ++ (48 + n % 10) ∷ []) (decimal_digit (n / 10) (omega arith))

-- the last two digits are pushed after those before them
pub last_two : (old mid new : List ℕ) (n : ℕ) → 100 ≤ n → n < 2 ^ 64 → mid ≡ old ++ decimal (n / 100) → new ≡ mid ++ (48 + n % 100 / 10) ∷ (48 + n % 100 % 10) ∷ [] → new ≡ old ++ decimal n
last_two old mid new n more fits first then =
    let before : n / 10 / 10 ≡ n / 100 = omega arith in
    let tens : n / 10 % 10 ≡ n % 100 / 10 = omega arith in
    let ones : n % 10 ≡ n % 100 % 10 = omega arith in
    let whole : decimal n ≡ decimal (n / 100) ++ (48 + n % 100 / 10) ∷ (48 + n % 100 % 10) ∷ [] =
    decimal_step n (omega arith) fits
    ∙ ap (λ ds. ds ++ (48 + n % 10) ∷ []) (decimal_step (n / 10) (omega arith) (omega (arith, fits)))
    ∙ append_assoc (decimal (n / 10 / 10)) ((48 + n / 10 % 10) ∷ []) ((48 + n % 10) ∷ [])
    ∙ (λ t. decimal (before t) ++ (48 + tens t) ∷ (48 + ones t) ∷ []) in
    then ∙ ap (λ t. t ++ (48 + n % 100 / 10) ∷ (48 + n % 100 % 10) ∷ []) first
    ∙ append_assoc old (decimal (n / 100)) ((48 + n % 100 / 10) ∷ (48 + n % 100 % 10) ∷ [])
    ∙ ap (λ ds. old ++ ds) (sym whole)
