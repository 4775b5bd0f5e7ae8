-- Numbers of few decimal digits.
use Rattle.std.proofs.Common.{◌≡◌, ◌<◌, ◌≤◌, ◌∙◌, ℕ, zero, suc, ◌+◌, ◌*◌, ◌-◌, nat_lt, false, List, [], ◌∷◌, Some, ap, arith, ne_eqb, refl, subst}
use Rattle.i3c_wave.specs.DumpWords.{from_coded, number_from}

-- ten to a power: more than each number with that many digits
unfoldable pub ten_to : ℕ → ℕ
ten_to zero = 1
ten_to (suc n) = 10 * ten_to n

ten_suc : (n : ℕ) → ten_to (suc n) ≡ 10 * ten_to n
unfolding ten_to
ten_suc n = refl

pub ten_zero : ten_to 0 ≡ 1
unfolding ten_to
ten_zero = refl

pub ten_to_next : (n : ℕ) → ten_to (n + 1) ≡ 10 * ten_to n
ten_to_next n = let same : n + 1 ≡ suc n = omega arith in ap ten_to same ∙ ten_suc n

-- numbers of more digits are larger
longer : (n k : ℕ) → ten_to n ≤ ten_to (k + n)
longer n zero =
    let same : n ≡ 0 + n = omega arith in
    let here : ten_to n ≤ ten_to n = omega arith in
    subst (λ m. ten_to n ≤ ten_to m) same here
longer n (suc k) =
    let same : suc (k + n) ≡ suc k + n = omega arith in
    let more : ten_to n ≤ ten_to (suc (k + n)) = omega (arith, longer n k, ten_suc (k + n)) in
    subst (λ m. ten_to n ≤ ten_to m) same more

pub eighteen : (n : ℕ) → n ≤ 18 → ten_to n ≤ 1000000000000000000
unfolding ten_to
eighteen n few =
    let same : (18 - n) + n ≡ 18 = omega (arith, few) in
    subst (λ m. ten_to n ≤ ten_to m) same (longer n (18 - n))

pub nineteen : (n : ℕ) → n ≤ 19 → ten_to n ≤ 10000000000000000000
unfolding ten_to
nineteen n few =
    let same : (19 - n) + n ≡ 19 = omega (arith, few) in
    subst (λ m. ten_to n ≤ ten_to m) same (longer n (19 - n))

not_less : (a b : ℕ) → b ≤ a → nat_lt a b ≡ false
not_less a b le = grind (arith, le)

-- a digit behind a number of less than nineteen digits
pub number_step : (number digit : ℕ) (rest : List ℕ) → number ≤ 1000000000000000000 → 48 ≤ digit → digit ≤ 57 → number_from number (digit ∷ rest) ≡ number_from (number * 10 + (digit - 48)) rest
number_step number digit rest small least most = rw (not_less digit 48 least, not_less 57 digit most, not_less 1000000000000000000 number small) refl

-- a number of nineteen digits at most
pub number_is : (number : ℕ) → number < 10000000000000000000 → from_coded number [] ≡ Some number
number_is number small = rw (ne_eqb number 18446744073709551615 (λ same. absurd (omega (arith, same, small)))) refl
