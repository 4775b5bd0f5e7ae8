-- Hex digits as they are printed.
use Rattle.std.proofs.Common.{◌≡◌, ◌∙◌, ℕ, zero, suc, ◌-◌, ◌+◌, ◌*◌, ◌/◌, ◌%◌, ◌^◌, ◌<◌, ◌≤◌, Bool, true, ◌&&◌, T, eqb, eqb→eq, eq-zero-or-pos, get_or, inl, inr, List, [], ◌∷◌, ◌++◌, drop, length, take, set, w64, ap, arith, refl, sym}
use Rattle.std.proofs.lemmas.List.{append_assoc, drop-append-le, drop_all, get_or-set_same, length-append, length-set, take-set-le, take_all, take_more}
use lib.Ieee.Fits.{and_l, and_r}
use Rattle.std.specs.Fmt.{digit_glyph}
use Rattle.std.specs.Int.{bytes_high_first, to_be_bytes}
use Rattle.i3c_text.specs.Hex.{byte_text, bytes_text, hex_text}
use Rattle.i3c_text.proofs.DigitLaws.{length-hex_text}
use Rattle.i3c_text.specs.declared.numerals.TheConstants.{PAIRS}

-- the last two digits and those before them
two_more : (count n : ℕ) → 1 < count → hex_text count n ≡ hex_text (count - 2) (n / 256) ++ byte_text (n % 256)
unfolding hex_text
two_more zero n h = absurd (omega arith)
two_more (suc zero) n h = absurd (omega arith)
two_more (suc (suc count)) n h =
    let fewer : suc (suc count) - 2 ≡ count = omega arith in
    let before : n / 16 / 16 ≡ n / 256 = omega arith in
    let high : n / 16 % 16 ≡ n % 256 / 16 = omega arith in
    let low : n % 16 ≡ n % 256 % 16 = omega arith in
    append_assoc (hex_text count (n / 16 / 16)) (digit_glyph true (n / 16 % 16) ∷ []) (digit_glyph true (n % 16) ∷ [])
    ∙ ap (λ m. hex_text count m ++ digit_glyph true (n / 16 % 16) ∷ digit_glyph true (n % 16) ∷ []) before
    ∙ ap (λ d. hex_text count (n / 256) ++ digit_glyph true d ∷ digit_glyph true (n % 16) ∷ []) high
    ∙ ap (λ d. hex_text count (n / 256) ++ digit_glyph true (n % 256 / 16) ∷ digit_glyph true d ∷ []) low
    ∙ ap (λ k. hex_text k (n / 256) ++ byte_text (n % 256)) (sym fewer)

-- without the first digits the last are left
hex_without : (less count n : ℕ) → drop less (hex_text (less + count) n) ≡ hex_text count n
unfolding hex_text
hex_without less zero n =
    let long = length-hex_text (less + 0) n in
    drop_all less (hex_text (less + 0) n) (omega (arith, long))
hex_without less (suc count) n =
    let more : less + suc count ≡ suc (less + count) = omega arith in
    let long = length-hex_text (less + count) (n / 16) in
    ap (λ k. drop less (hex_text k n)) more
    ∙ drop-append-le less (hex_text (less + count) (n / 16)) (digit_glyph true (n % 16) ∷ []) (omega (arith, long))
    ∙ ap (λ ds. ds ++ digit_glyph true (n % 16) ∷ []) (hex_without less count (n / 16))

-- the last digits of sixteen, as a part of them
pub last_digits : (count n : ℕ) → count ≤ 16 → take (16 - (16 - count)) (drop (16 - count) (hex_text 16 n)) ≡ hex_text count n
last_digits count n few =
    let all : 16 ≡ 16 - count + count = omega arith in
    let last : drop (16 - count) (hex_text 16 n) ≡ hex_text count n = ap (λ k. drop (16 - count) (hex_text k n)) all ∙ hex_without (16 - count) count n in
    let long = length-hex_text count n in
    ap (take (16 - (16 - count))) last ∙ take_all (16 - (16 - count)) (hex_text count n) (omega (arith, long))

-- the texts of some bytes, and of one more
pub bytes_text_more : (bytes : List ℕ) (byte : ℕ) → bytes_text (bytes ++ byte ∷ []) ≡ bytes_text bytes ++ byte_text byte
bytes_text_more [] byte = refl
bytes_text_more (first ∷ bytes) byte = ap (λ ds. byte_text first ++ ds) (bytes_text_more bytes byte) ∙ sym (append_assoc (byte_text first) (bytes_text bytes) (byte_text byte))

-- the last `count` bytes of a number
abbrev last_bytes : ℕ → ℕ → List ℕ
last_bytes zero n = []
last_bytes (suc count) n = last_bytes count (n / 256) ++ n % 256 ∷ []

last_bytes_text : (count n : ℕ) → bytes_text (last_bytes count n) ≡ hex_text (2 * count) n
unfolding hex_text
last_bytes_text zero n = refl
last_bytes_text (suc count) n =
    let fewer : 2 * suc count - 2 ≡ 2 * count = omega arith in
    bytes_text_more (last_bytes count (n / 256)) (n % 256)
    ∙ ap (λ ds. ds ++ byte_text (n % 256)) (last_bytes_text count (n / 256))
    ∙ ap (λ k. hex_text k (n / 256) ++ byte_text (n % 256)) (sym fewer)
    ∙ sym (two_more (2 * suc count) n (omega arith))

eight_bytes : (n : ℕ) → bytes_high_first 8 n ≡ last_bytes 8 n
eight_bytes n =
    let e2 : n / 256 ^ 2 ≡ n / 256 / 256 = omega arith in
    let e3 : n / 256 ^ 3 ≡ n / 256 / 256 / 256 = omega arith in
    let e4 : n / 256 ^ 4 ≡ n / 256 / 256 / 256 / 256 = omega arith in
    let e5 : n / 256 ^ 5 ≡ n / 256 / 256 / 256 / 256 / 256 = omega arith in
    let e6 : n / 256 ^ 6 ≡ n / 256 / 256 / 256 / 256 / 256 / 256 = omega arith in
    let e7 : n / 256 ^ 7 ≡ n / 256 / 256 / 256 / 256 / 256 / 256 / 256 = omega arith in
    λ t. e7 t % 256 ∷ e6 t % 256 ∷ e5 t % 256 ∷ e4 t % 256 ∷ e3 t % 256 ∷ e2 t % 256 ∷ n / 256 % 256 ∷ n % 256 ∷ []

-- a number's bytes, the highest first, are its sixteen digits
pub sixteen_digits : (n : ℕ) → bytes_text (to_be_bytes w64 n) ≡ hex_text 16 n
sixteen_digits n = ap bytes_text (eight_bytes n) ∙ last_bytes_text 8 n

-- the pairs of the table are the digits of their bytes
abbrev are_pairs : ℕ → Bool
are_pairs zero = true
are_pairs (suc n) = (eqb (get_or PAIRS (2 * n) 0) (digit_glyph true (n / 16)) && eqb (get_or PAIRS (2 * n + 1) 0) (digit_glyph true (n % 16))) && are_pairs n

pairs_below : (n byte : ℕ) → T (are_pairs n) → byte < n → (get_or PAIRS (2 * byte) 0 ≡ digit_glyph true (byte / 16)) × (get_or PAIRS (2 * byte + 1) 0 ≡ digit_glyph true (byte % 16))
pairs_below zero byte t h = absurd (omega arith)
pairs_below (suc n) byte t h =
    elim (eq-zero-or-pos (n - byte)) [
      | inl z ↦
          let e : byte ≡ n = omega arith in
          let both = and_l _ (are_pairs n) t in
          rw e ((eqb→eq _ _ (and_l _ _ both), eqb→eq _ _ (and_r _ _ both)))
      | inr g ↦ pairs_below n byte (and_r _ (are_pairs n) t) (omega arith)
    ]

pub high_at : (byte : ℕ) → byte < 256 → get_or PAIRS (2 * byte) 0 ≡ digit_glyph true (byte / 16)
high_at byte h = (pairs_below 256 byte tt h).0

pub low_at : (byte : ℕ) → byte < 256 → get_or PAIRS (2 * byte + 1) 0 ≡ digit_glyph true (byte % 16)
low_at byte h = (pairs_below 256 byte tt h).1

-- after a byte's digits are put into their places
pub pair_put : (places bytes : List ℕ) (i byte high low : ℕ) → length places ≡ 2 * length bytes → i < length bytes → get_or bytes i 0 ≡ byte → high ≡ digit_glyph true (byte / 16) → low ≡ digit_glyph true (byte % 16)
    → take (2 * i) places ≡ bytes_text (take i bytes)
    → (length (set (set places (2 * i) high) (2 * i + 1) low) ≡ 2 * length bytes) × (take (2 * (i + 1)) (set (set places (2 * i) high) (2 * i + 1) low) ≡ bytes_text (take (i + 1) bytes))
pair_put places bytes i byte high low long within is at_high at_low before =
    let one : List ℕ = set places (2 * i) high in
    let two : List ℕ = set one (2 * i + 1) low in
    let one_long : length one ≡ length places = length-set places (2 * i) high in
    let two_long : length two ≡ length one = length-set one (2 * i + 1) low in
    let end : 2 * (i + 1) ≡ 2 * i + 1 + 1 = omega arith in
    let second : get_or two (2 * i + 1) 0 ≡ low = get_or-set_same one (2 * i + 1) low 0 (omega (arith, one_long, long)) in
    let first : get_or one (2 * i) 0 ≡ high = get_or-set_same places (2 * i) high 0 (omega (arith, long)) in
    let before_low : take (2 * i + 1) two ≡ bytes_text (take i bytes) ++ high ∷ [] =
    take-set-le (2 * i + 1) one (2 * i + 1) low (omega arith) ∙ take_more one (2 * i) 0 (omega (arith, one_long, long))
    ∙ ap (λ d. take (2 * i) one ++ d ∷ []) first ∙ ap (λ ds. ds ++ high ∷ []) (take-set-le (2 * i) places (2 * i) high (omega arith) ∙ before) in (
      two_long ∙ one_long ∙ long,
      ap (λ k. take k two) end
          ∙ take_more two (2 * i + 1) 0 (omega (arith, one_long, two_long, long))
          ∙ ap (λ d. take (2 * i + 1) two ++ d ∷ []) second
          ∙ ap (λ ds. ds ++ low ∷ []) before_low
          ∙ append_assoc (bytes_text (take i bytes)) (high ∷ []) (low ∷ [])
          ∙ (λ t. bytes_text (take i bytes) ++ at_high t ∷ at_low t ∷ [])
          ∙ sym (bytes_text_more (take i bytes) byte)
          ∙ ap (λ b. bytes_text (take i bytes ++ b ∷ [])) (sym is)
          ∙ ap bytes_text (sym (take_more bytes i 0 within)),
    )
