-- Digits of a number, and the number that digits write.
use Rattle.std.proofs.Common.{◌≡◌, ℕ, zero, suc, ◌+◌, ◌*◌, ◌-◌, ◌/◌, ◌%◌, ◌^◌, ◌<◌, ◌≤◌, true, List, [], ◌∷◌, ◌++◌, length, get_or, arith, refl, ap, sym, ◌∙◌, ⊎_elim, inl, inr, All, eq-zero-or-pos, length-append, take, lit<, add-one, subst}
use Rattle.std.proofs.lemmas.List.{get_or_append_left, get_or-append_right, same_from_push, take_more}
use Rattle.std.proofs.Math.Nat.{pow-le-pow_right, pow-succ'}
use Rattle.std.proofs.lemmas.Bool.{cases_lt}
use Rattle.std.proofs.lemmas.List.Elements.{All-push}
use Rattle.std.proofs.lemmas.Int.Digits.{digits_value_push}
use Rattle.std.proofs.lemmas.Bool.Decides.{nat_tests}
use Rattle.std.specs.Char.{digit_value}
use Rattle.std.specs.Fmt.{digit_glyph}
use Rattle.std.specs.Str.Parse.{digits_value}
use Rattle.i3c_text.specs.Digits.{IsHexDigit}
use Rattle.i3c_text.specs.Hex.{hex_text}

-- the digits but the last are those of the number without its last
pub hex_text_less : (count n : ℕ) → 0 < count → hex_text count n ≡ hex_text (count - 1) (n / 16) ++ digit_glyph true (n % 16) ∷ []
unfolding hex_text
hex_text_less zero n h = absurd (omega arith)
hex_text_less (suc count) n h = let same : suc count - 1 ≡ count = omega arith in rw same

pub hex_text_none : (count n : ℕ) → count ≤ 0 → hex_text count n ≡ []
unfolding hex_text
hex_text_none zero n h = refl
hex_text_none (suc count) n h = absurd (omega arith)

pub hex_text_more : (count n value : ℕ) → value < 16 → hex_text (count + 1) (16 * n + value) ≡ hex_text count n ++ digit_glyph true value ∷ []
unfolding hex_text
hex_text_more count n value h =
    let next : count + 1 ≡ suc count = omega arith in
    let front : (16 * n + value) / 16 ≡ n = omega arith in
    let last : (16 * n + value) % 16 ≡ value = omega arith in
    rw (next, front, last)

pub length-hex_text : (count n : ℕ) → length (hex_text count n) ≡ count
unfolding hex_text
length-hex_text zero n = refl
length-hex_text (suc count) n = omega (arith, length-append (hex_text count (n / 16)) (digit_glyph true (n % 16) ∷ []), length-hex_text count (n / 16))

-- a digit below 16 is a hex digit of its worth
glyph_is : (n : ℕ) → n < 16 → IsHexDigit (digit_glyph true n) × (digit_value (digit_glyph true n) ≡ n)
glyph_is n h =
    elim (eq-zero-or-pos (10 - n)) [
      | inl z ↦ let is : digit_glyph true n ≡ 55 + n = grind arith in (inr (omega (arith, is, z), omega (arith, is, h)), grind arith)
      | inr few ↦ let is : digit_glyph true n ≡ 48 + n = grind arith in (inl (omega (arith, is), omega (arith, is, few)), grind arith)
    ]

-- the digits of a number write it
pub hex_is : (count n : ℕ) → n < 16 ^ count → All IsHexDigit (hex_text count n) × (digits_value 16 (hex_text count n) ≡ n)
unfolding hex_text
hex_is zero n h = ((λ k d within. absurd (omega (arith, within))), omega (arith, h))
hex_is (suc count) n h =
    let power : 16 ^ suc count ≡ 16 * 16 ^ count = rw pow-succ' in
    let before = hex_is count (n / 16) (omega (arith, h, power)) in
    let digit = glyph_is (n % 16) (omega arith) in
    let value = digits_value_push 16 (hex_text count (n / 16)) (digit_glyph true (n % 16)) in (
      All-push IsHexDigit (hex_text count (n / 16)) (digit_glyph true (n % 16)) before.0 digit.0,
      omega (arith, value, before.1, digit.1),
    )

-- each of them is a hex digit
pub digit_at : (count n i : ℕ) → i < count → IsHexDigit (get_or (hex_text count n) i 0)
unfolding hex_text
digit_at zero n i h = absurd (omega arith)
digit_at (suc count) n i h =
    let front = hex_text count (n / 16) in
    let wide : length front ≡ count = length-hex_text count (n / 16) in
    ⊎_elim
    (λ (within : i < count). let here : i < length front = omega arith in
    subst IsHexDigit (sym (get_or_append_left front (digit_glyph true (n % 16) ∷ []) 0 i here)) (digit_at count (n / 16) i within))
    (λ past.
    let right = get_or-append_right front (digit_glyph true (n % 16) ∷ []) count i 0 wide past in
    let first : i - count ≡ 0 = omega arith in
    subst IsHexDigit (sym (right ∙ ap (λ k. get_or (digit_glyph true (n % 16) ∷ []) k 0) first)) (glyph_is (n % 16) (omega arith)).0)
    (cases_lt i count)

-- a number of `count` digits, and one digit more
pub lt_more : (count n value : ℕ) → n < 16 ^ count → value < 16 → 16 * n + value < 16 ^ (count + 1)
lt_more count n value small digit = let more : 16 ^ (count + 1) ≡ 16 * 16 ^ count = rw (add-one, pow-succ') in omega (arith, small, digit, more)

-- a number of at most 16 digits has 64 bits
pub fits_digits : (count n : ℕ) → count ≤ 16 → n < 16 ^ count → n < 2 ^ 64
fits_digits count n few small =
    let most : 16 ^ count ≤ 16 ^ 16 = pow-le-pow_right {n = 16} (lit< tt) {i = count} {j = 16} few in
    omega (arith, small, most)

-- the digits of a list up to i, which write a number, and one more
pub digits_step : (digits : List ℕ) (i n value : ℕ) → i < length digits → value < 16 → digit_glyph true value ≡ get_or digits i 0
    → hex_text i n ≡ take i digits → hex_text (i + 1) (16 * n + value) ≡ take (i + 1) digits
digits_step digits i n value within small here before =
    hex_text_more i n value small ∙ ap (λ front. front ++ digit_glyph true value ∷ []) before ∙ ap (λ last. take i digits ++ last ∷ []) here ∙ sym (take_more digits i 0 within)

-- where a list has a byte that is no digit, it isn't of digits
pub not_digits : (digits : List ℕ) (n i : ℕ) → i < length digits → (IsHexDigit (get_or digits i 0) → ⊥) → hex_text (length digits) n ≡ digits → ⊥
not_digits digits n i within none same = none (subst (λ list. IsHexDigit (get_or list i 0)) same (digit_at (length digits) n i within))

-- the digits of a byte
pub two_digits : (n high low : ℕ) → hex_text 2 n ≡ high ∷ low ∷ [] → IsHexDigit high × IsHexDigit low
two_digits n high low same = (subst (λ list. IsHexDigit (get_or list 0 0)) same (digit_at 2 n 0 (lit< tt)), subst (λ list. IsHexDigit (get_or list 1 0)) same (digit_at 2 n 1 (lit< tt)))

-- each digit is told by its value
pub glyph_of_value : (byte worth : ℕ) → IsHexDigit byte → worth ≡ digit_value byte → digit_glyph true worth ≡ byte
glyph_of_value byte worth (inl low) e = grind (arith, nat_tests)
glyph_of_value byte worth (inr high) e = grind (arith, nat_tests)

glyph_same : (a b : ℕ) → a < 16 → b < 16 → digit_glyph true a ≡ digit_glyph true b → a ≡ b
glyph_same a b small low e = grind (arith, nat_tests)

-- `count` digits determine a number
pub hex_text_same : (count m n : ℕ) → m < 16 ^ count → n < 16 ^ count → hex_text count m ≡ hex_text count n → m ≡ n
unfolding hex_text
hex_text_same zero m n small low e = omega arith
hex_text_same (suc count) m n small low e =
    let (front, last) = same_from_push _ _ _ _ e in
    let power : 16 ^ suc count ≡ 16 * 16 ^ count = pow-succ' 16 count in
    let same = hex_text_same count (m / 16) (n / 16) (omega (arith, small, power)) (omega (arith, low, power)) front in
    let digit = glyph_same (m % 16) (n % 16) (omega arith) (omega arith) last in
    omega (arith, same, digit)
